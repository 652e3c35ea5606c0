-- One computation after another, and the only induction on steps.
use Rattle.std.proofs.Common.{◌≡◌, ℕ, zero, suc, ◌+◌, ◌≤◌, length, refl, sym, ap, ◌∙◌, subst, arith}
use Rattle.std.proofs.lemmas.List.{length_push}
use Rattle.js_terms.specs.Mark.{Mark}
use Rattle.js_value.specs.declared.value.Value.{Value}
use Rattle.js_value.specs.State.{Store}
use Rattle.js_value.specs.Running.{note}
use Rattle.js_value.specs.Realm.{undefined}
use Rattle.js_meaning.specs.declared.outcome.Completion.{Completion}
use Rattle.js_meaning.specs.declared.outcome.Completion.TheVariants.{Normal}
use Rattle.js_meaning.specs.declared.outcome.Outcome.TheVariants.{Stops}
use Rattle.js_meaning.specs.Effects.{Entry, Construct, Comp, ret, act, enter, handle, Ran, ran}
use Rattle.js_meaning.specs.Program.{Sources}
use Rattle.js_meaning.specs.Meaning.{with_value}
use Rattle.js_meaning.specs.Files.{inside}
use Rattle.js_meaning.proofs.Handle.{handle_again, handle_ret}
use Rattle.js_two_runs.specs.Pairs.{Paired}
use Rattle.js_two_runs.specs.TwoRuns.{Related}
use Rattle.js_suits.specs.Settings.{World, Setting}
use Rattle.js_lockstep.specs.Worlds.{Later, AlikeStores, AlikeCompletions, normals, breaks, continues, returns, throws, ToldAlike, AlikeRuns, complete, refused, stopped}
use Rattle.js_lockstep.specs.Trees.{AlikeEntries, left, right, Goes, Steps, InStep, rets, refuses, runs, enters, steps, Ticks}

pub later_same : (w : World) → Later w w
later_same w = record { objects = λ o p i. i; environments = λ e f i. i; home = λ e f i. refl; own = λ e f i. refl }

pub later_again : {u v w : World} → Later u v → Later v w → Later u w
later_again g h = record {
  objects = λ o p i. h.objects o p (g.objects o p i);
  environments = λ e f i. h.environments e f (g.environments e f i);
  home = λ e f i. h.home e f (g.environments e f i) ∙ g.home e f i;
  own = λ e f i. h.own e f (g.environments e f i) ∙ g.own e f i;
}

module _ (c : Setting) (p q : Sources) where
  abbrev goes_then : {w : World} {s t : Store} {a b : Comp} (f g : Completion → Comp) → Goes c p q w s t a b → Goes c p q w s t (handle a f) (handle b g)
  goes_then {s = s} {t = t} {a = a} {b = b} f g x = record {
    v = x.v;
    s' = x.s';
    t' = x.t';
    a' = handle x.a' f;
    b' = handle x.b' g;
    later = x.later;
    alike = x.alike;
    logs = x.logs;
    lefts = λ n j. ap (λ d. left c p q n d s) (handle_again a f j) ∙ x.lefts n (λ o. handle (f o) j) ∙ ap (λ d. left c p q n d x.s') (sym (handle_again x.a' f j));
    rights = λ n j. ap (λ d. right c p q n d t) (handle_again b g j) ∙ x.rights n (λ o. handle (g o) j) ∙ ap (λ d. right c p q n d x.t') (sym (handle_again x.b' g j));
  }

  abbrev steps_then : {w : World} {s t : Store} {e : Entry} {i : Completion → Comp} {b : Comp} (f g : Completion → Comp) → Steps c p q w s t e i b →
      Steps c p q w s t e (λ o. handle (i o) f) (handle b g)
  steps_then {s = s} {t = t} {e = e} {i = i} {b = b} f g x = record {
    v = x.v;
    s' = x.s';
    t' = x.t';
    a' = handle x.a' f;
    b' = handle x.b' g;
    later = x.later;
    alike = x.alike;
    logs = x.logs;
    lefts = λ n j. ap (λ d. left c p q n (handle d j) s) (sym (handle_again (inside p e) i f)) ∙ ap (λ d. left c p q n d s) (handle_again (handle (inside p e) i) f j)
        ∙ x.lefts n (λ o. handle (f o) j) ∙ ap (λ d. left c p q n d x.s') (sym (handle_again x.a' f j));
    stop = x.stop;
    told = x.told;
    none = λ j. ap (λ d. right c p q 0 d t) (handle_again b g j) ∙ x.none (λ o. handle (g o) j);
    some = λ n j room. ap (λ d. right c p q (suc n) d t) (handle_again b g j) ∙ x.some n (λ o. handle (g o) j) room ∙ ap (λ d. right c p q n d x.t') (sym (handle_again x.b' g j));
  }

  pub handle_step : {w : World} {a b : Comp} {f g : Completion → Comp} → InStep c p q w a b →
      ((v : World) → Later w v → (x y : Completion) → AlikeCompletions v x y → InStep c p q v (f x) (g y)) → InStep c p q w (handle a f) (handle b g)
  handle_step {w = w} (rets {x = x} {y = y} r) n = n w (later_same w) x y r
  handle_step (refuses k) n = refuses k
  handle_step {f = f} {g = g} (runs go r) n = runs (λ s t x. goes_then f g (go s t x)) (λ s t x. handle_step (r s t x) (λ u h. n u (later_again (go s t x).later h)))
  handle_step (enters e r) n = enters e (λ v h x y o. handle_step (r v h x y o) (λ u h'. n u (later_again h h')))
  handle_step {f = f} {g = g} (steps go r) n = steps (λ s t x. steps_then f g (go s t x)) (λ s t x. handle_step (r s t x) (λ u h. n u (later_again (go s t x).later h)))

  pub value_step : {w : World} {x y : Completion} {f g : Value → Comp} → AlikeCompletions w x y →
      ((a b : Value) → Related (Paired w.objects) a b → InStep c p q w (f a) (g b)) → InStep c p q w (with_value f x) (with_value g y)
  value_step (normals {a = a} {b = b} r) n = n a b r
  value_step (breaks label) n = rets (breaks label)
  value_step (continues label) n = rets (continues label)
  value_step (returns r) n = rets (returns r)
  value_step (throws r) n = rets (throws r)

  pub then_step : {w : World} {a b : Comp} {f g : Value → Comp} → InStep c p q w a b →
      ((v : World) → Later w v → (x y : Value) → Related (Paired v.objects) x y → InStep c p q v (f x) (g y)) →
      InStep c p q w (handle a (with_value f)) (handle b (with_value g))
  then_step h n = handle_step h (λ v g x y r. value_step r (n v g))

  -- a change of both stores
  pub record Changed (w : World) (s t : Store) : Type 0 where
    pub v : World
    pub later : Later w v
    pub alike : AlikeStores c v s t

  pub acts : {w : World} {f g : Store → Store} {i j : Store → Comp} → ((s : Store) → length (f s).log ≡ length s.log) → (go : (s t : Store) → AlikeStores c w s t → Changed w (f s) (g t)) →
      ((s t : Store) (x : AlikeStores c w s t) → InStep c p q (go s t x).v (i s) (j t)) → InStep c p q w (act f i) (act g j)
  acts {f = f} {g = g} {i = i} {j = j} logs go r = runs
      (λ s t x. (let y = go s t x in record { v = y.v; s' = f s; t' = g t; a' = i s; b' = j t; later = y.later; alike = y.alike; logs = logs s; lefts = λ n k. refl; rights = λ n k. refl }))
      (λ s t x. r s t x)

  -- one after which there are no more pairs, and none at all
  pub writes : {w : World} {f g : Store → Store} {i j : Store → Comp} → ((s : Store) → length (f s).log ≡ length s.log) → ((s t : Store) → AlikeStores c w s t → AlikeStores c w (f s) (g t)) →
      ((s t : Store) → AlikeStores c w s t → InStep c p q w (i s) (j t)) → InStep c p q w (act f i) (act g j)
  writes {w = w} logs go r = acts logs (λ s t x. record { v = w; later = later_same w; alike = go s t x }) r

  pub looks_step : {w : World} {i j : Store → Comp} → ((s t : Store) → AlikeStores c w s t → InStep c p q w (i s) (j t)) →
      InStep c p q w (act (λ s. s) i) (act (λ s. s) j)
  looks_step r = writes (λ s. refl) (λ s t x. x) r

  -- the stores are at hand where nothing is done
  pub at_hand : {w : World} {a b : Comp} → ((s t : Store) → AlikeStores c w s t → InStep c p q w a b) → InStep c p q w a b
  at_hand {w = w} {a = a} {b = b} r = runs
      (λ s t x. record { v = w; s' = s; t' = t; a' = a; b' = b; later = later_same w; alike = x; logs = refl; lefts = λ n j. refl; rights = λ n j. refl }) r

  -- a mark, and the code that counts it
  pub ticked : {w : World} {i : Completion → Comp} {b d : Comp} (mark : Mark) (e : Comp) →
      ((s t : Store) → AlikeStores c w s t → Ticks c p q w mark s t e) →
      ((n : ℕ) (t t' : Store) (v : Value) (j : Completion → Comp) → ((k : Completion → Comp) → right c p q (suc n) (handle e k) t ≡ right c p q n (k (Normal v)) t') → right c p q (suc n) (handle b j) t ≡ right c p q n (handle d j) t') →
      ((t u : Store) (j : Completion → Comp) → ((k : Completion → Comp) → right c p q 0 (handle e k) t ≡ ran Stops u) → right c p q 0 (handle b j) t ≡ ran Stops u) →
      ((v : World) → Later w v → InStep c p q v (i (Normal undefined)) d) → InStep c p q w (enter (Construct mark) i) b
  ticked {i = i} {b = b} {d = d} mark e tick some none r = steps
      (λ s t x. (let y = tick s t x in record {
        v = y.v;
        s' = note mark s;
        t' = y.t';
        a' = i (Normal undefined);
        b' = d;
        later = y.later;
        alike = y.alike;
        logs = (let l = length_push s.log mark in omega (arith, l));
        lefts = λ n j. refl;
        stop = y.stop;
        told = y.told;
        none = λ j. none t y.stop j y.none;
        some = λ n j room. some n t y.t' y.value j (λ l. y.some n l room);
      }))
      (λ s t x. r _ (tick s t x).later)

  -- The runs

  pub record Insides : Type 0 where
    pub at : (w : World) (e f : Entry) → AlikeEntries c w e f → InStep c p q w (inside p e) (inside q f)

  module _ (tells : (w : World) (s t : Store) → AlikeStores c w s t → ToldAlike c s t) where
    abbrev pub Alike : ℕ → Type 0
    Alike n = (w : World) (a b : Comp) → InStep c p q w a b → (s t : Store) → AlikeStores c w s t → length s.log + n ≤ c.limit → AlikeRuns c (left c p q n a s) (right c p q n b t)

    same_left : (n : ℕ) (a a' : Comp) (s s' : Store) → ((j : Completion → Comp) → left c p q n (handle a j) s ≡ left c p q n (handle a' j) s') → left c p q n a s ≡ left c p q n a' s'
    same_left n a a' s s' h = ap (λ d. left c p q n d s) (sym (handle_ret a)) ∙ h ret ∙ ap (λ d. left c p q n d s') (handle_ret a')

    same_right : (n m : ℕ) (b b' : Comp) (t t' : Store) → ((j : Completion → Comp) → right c p q n (handle b j) t ≡ right c p q m (handle b' j) t') → right c p q n b t ≡ right c p q m b' t'
    same_right n m b b' t t' h = ap (λ d. right c p q n d t) (sym (handle_ret b)) ∙ h ret ∙ ap (λ d. right c p q m d t') (handle_ret b')

    both : {x x' y y' : Ran} → x ≡ x' → y ≡ y' → AlikeRuns c x' y' → AlikeRuns c x y
    both {x} {x'} {y} {y'} f g r = subst (λ z. AlikeRuns c z y) (sym f) (subst (λ z. AlikeRuns c x' z) (sym g) r)

    no_more : {w : World} {a b : Comp} → InStep c p q w a b → (s t : Store) → AlikeStores c w s t → AlikeRuns c (left c p q 0 a s) (right c p q 0 b t)
    no_more {w = w} (rets r) s t x = complete w r x
    no_more {w = w} (refuses k) s t x = refused k w x
    no_more {a = a} {b = b} (runs go r) s t x =
        let y = go s t x in
        both (same_left 0 a y.a' s y.s' (y.lefts 0)) (same_right 0 0 b y.b' t y.t' (y.rights 0)) (no_more (r s t x) y.s' y.t' y.alike)
    no_more {w = w} (enters e r) s t x = stopped (tells w s t x)
    no_more {b = b} (steps go r) s t x =
        let y = go s t x in
        both refl (ap (λ d. right c p q 0 d t) (sym (handle_ret b)) ∙ y.none ret) (stopped y.told)

    one_more : (n : ℕ) → Insides → Alike n → {w : World} {a b : Comp} → InStep c p q w a b → (s t : Store) → AlikeStores c w s t → length s.log + suc n ≤ c.limit →
        AlikeRuns c (left c p q (suc n) a s) (right c p q (suc n) b t)
    one_more n ins ih {w = w} (rets r) s t x room = complete w r x
    one_more n ins ih {w = w} (refuses k) s t x room = refused k w x
    one_more n ins ih {a = a} {b = b} (runs go r) s t x room =
        let y = go s t x in
        both (same_left (suc n) a y.a' s y.s' (y.lefts (suc n))) (same_right (suc n) (suc n) b y.b' t y.t' (y.rights (suc n))) (one_more n ins ih (r s t x) y.s' y.t' y.alike (omega (arith, y.logs, room)))
    one_more n ins ih {w = w} (enters {e = e} {f = f} h r) s t x room = ih w _ _ (handle_step (ins.at w e f h) r) s t x (omega (arith, room))
    one_more n ins ih (steps {e = e} {i = i} {b = b} go r) s t x room =
        let y = go s t x in
        both (same_left n (handle (inside p e) i) y.a' s y.s' (y.lefts n)) (same_right (suc n) n b y.b' t y.t' (λ j. y.some n j (omega (arith, room)))) (ih y.v y.a' y.b' (r s t x) y.s' y.t' y.alike (omega (arith, y.logs, room)))

    pub in_step : Insides → (n : ℕ) → Alike n
    in_step ins zero w a b h s t x room = no_more h s t x
    in_step ins (suc n) w a b h s t x room = one_more n ins (in_step ins n) h s t x room
