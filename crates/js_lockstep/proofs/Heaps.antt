-- Heaps that grow in both runs.
use Rattle.std.proofs.Common.{◌≡◌, ◌≢◌, ℕ, suc, ◌<◌, Bool, true, false, List, [], ◌∷◌, ◌++◌, length, get_or, set, Option, Some, None, Ok, Err, refl, sym, ap, ◌∙◌, subst, ⊎_elim, arith, codes, if◌then◌else◌}
use Rattle.std.specs.Prelude.{◌==◌}
use Rattle.std.proofs.lemmas.Bool.{cases_eq, eqb-true, false_from_ne_true}
use Rattle.std.proofs.lemmas.List.{get_or-set_same, get_or-set_other, length-set, get_or_append_left, length_push, get_or_push}
use Rattle.std.proofs.lemmas.Bool.Decides.{nat_tests}
use Rattle.js_value.specs.declared.deed.Deed.{Deed}
use Rattle.js_value.specs.State.{ObjectKind, Property, Binding, Environment, Heap, Store}
use Rattle.js_value.specs.Objects.{next_object, new_object, define}
use Rattle.js_value.specs.Environments.{no_environment, no_binding, environment_at, place_in, next_environment}
use Rattle.js_value.specs.Realm.{global_environment}
use Rattle.js_value.specs.declared.deed.Halt.{Halt}
use Rattle.js_value.specs.Copying.{Copied}
use Rattle.js_value.specs.Host.{Or, after_deed}
use Rattle.js_two_runs.specs.Pairs.{Pairs, Paired, here, there, Corresponds}
use Rattle.js_two_runs.specs.TwoRuns.{InBoth, RelatedDeeds}
use Rattle.js_two_runs.specs.TwoHeaps.{AlikeKinds, AlikeProperties, AlikeHeaps}
use Rattle.js_two_runs.specs.TwoCalls.{pairs_after}
use Rattle.js_two_runs.proofs.PairsLemmas.{newest, grown, weaker}
use Rattle.js_two_runs.proofs.PairsLemmas as pairs_lemmas
use Rattle.js_two_runs.proofs.TwoHeapsLater.{heaps-weaker, define-alike}
use Rattle.js_two_runs.proofs.TwoOperationsLemmas.{new_objects-alike}
use Rattle.js_two_runs.proofs.TwoCallsLemmas.{after-alike}
use Rattle.js_suits.specs.Settings.{Home, Outside, World, Setting}
use Rattle.js_lockstep.specs.Worlds.{root, RootStays, GlobalStays, Later, Around, AlikeNames, AlikeOuter, no_outer, outers, outer_home, AlikeEnvironments, AlikeFunctions, AlikeStores, Untouched}
use Rattle.js_lockstep.specs.Counters.{Keeps}
use Rattle.js_lockstep.proofs.Rules.{later_same, later_again}
use Rattle.js_lockstep.proofs.Later.{around_later, functions_later, environment_later, cache_later, requiring_later}
use Rattle.js_lockstep.proofs.Root.{root_at, root_again, root_new, root_apart}
use Rattle.js_lockstep.proofs.Alone.{Alone, alone_same, alone_again, alone_new, alone_set, alone_deed, not_root, root_deed}

-- a function that is changed at one place
abbrev pub at : {A : Type 0} → (ℕ → A) → ℕ → A → ℕ → A
at f q a x = if x == q then a else f x

pub at_same : {A : Type 0} (f : ℕ → A) (q : ℕ) (a : A) → at f q a q ≡ a
at_same f q a = let e : (q == q) ≡ true = grind arith in ap (λ b. if b then a else f q) e

pub at_other : {A : Type 0} (f : ℕ → A) (q : ℕ) (a : A) (x : ℕ) → x ≢ q → at f q a x ≡ f x
at_other f q a x ne = ap (λ b. if b then a else f x) (false_from_ne_true (x == q) (λ e. ne (eqb-true x q e)))

pub untouched_same : (w : World) (h : Heap) → Untouched w w h h
untouched_same w h = record { objects = alone_same w.objects h; environments = λ f lt apart. (apart, lt, refl); own = λ e f n i o. refl; outers = λ z. z; inherited = λ low. (low, root_at h h refl); global = λ low. (low, λ n e. (e, refl)); inner = λ e f n i o. i }

pub untouched_again : {u v w : World} {h k l : Heap} → Later u v → Later v w → Untouched u v h k → Untouched v w k l → Untouched u w h l
untouched_again {u} {v} {w} {h} {k} {l} g g' x y = record {
  objects = alone_again u.objects v.objects w.objects h k l x.objects y.objects;
  environments = λ f lt apart. let a = x.environments f lt apart in let b = y.environments f a.1 a.0 in (b.0, b.1, b.2 ∙ a.2);
  own = λ e f n i o. y.own e f n (g.environments e f i) (g.own e f i ∙ o) ∙ x.own e f n i o;
  outers = λ z. y.outers (x.outers z);
  inherited = λ low. let a = x.inherited low in let b = y.inherited a.0 in (b.0, root_again h k l a.1 b.1);
  global = λ low. let a = x.global low in let b = y.global a.0 in (b.0, λ n e. let i = a.1 n e in let j = b.1 n i.0 in (j.0, j.1 ∙ i.1));
  inner = λ e f n i o. let j = y.inner e f n i o in x.inner e f n j (sym (g'.own e f j) ∙ o);
}

module _ (c : Setting) where
  pub record Both (w : World) (h k : Heap) : Type 0 where
    pub heaps : AlikeHeaps w.objects (AlikeFunctions c w) h k
    pub environments : Corresponds (AlikeEnvironments c.name w) no_environment w.environments h.environments k.environments
    pub global : Around w (Outside 0) 0 0

  pub root_bound : {pairs : Pairs} {F : ℕ → ℕ → ℕ → ℕ → Type 0} {h k : Heap} → AlikeHeaps pairs F h k → root < length k.objects
  root_bound hs = hs.objects.right_bound root root (hs.built_in root (omega arith) (λ e. omega arith))

  pub apart_from_root : {w : World} {h k : Heap} → Both w h k → next_object k ≢ root
  apart_from_root x = not_root (root_bound x.heaps)

  pub record Grown (w : World) (h k a b : Heap) : Type 0 where
    pub v : World
    pub later : Later w v
    pub both : Both v a b
    pub untouched : Untouched w v k b

  abbrev pub grown_same : {w : World} {h k : Heap} → Both w h k → Grown w h k h k
  grown_same {w} {h} {k} x = record { v = w; later = later_same w; both = x; untouched = untouched_same w k }

  abbrev pub grown_again : {w : World} {h k a b d e : Heap} → (x : Grown w h k a b) → Grown x.v a b d e → Grown w h k d e
  grown_again x y = record { v = y.v; later = later_again x.later y.later; both = y.both; untouched = untouched_again x.later y.later x.untouched y.untouched }

  -- an object that is made, and an environment
  pub record Made (w : World) (h k a b : Heap) : Type 0 where
    pub grown : Grown w h k a b
    pub pair : Paired grown.v.objects (next_object h) (next_object k)

  pub record Opened (home : Home) (w : World) (h k a b : Heap) : Type 0 where
    pub grown : Grown w h k a b
    pub around : Around grown.v home (next_environment h) (next_environment k)
    pub inner : grown.v.own (next_environment k) ≡ None

  -- Objects

  abbrev pub objects_grown : (w : World) (h k : Heap) → Both w h k → (pairs : Pairs) (more : (o p : ℕ) → Paired w.objects o p → Paired pairs o p) (a b : Heap) →
      a.environments ≡ h.environments → b.environments ≡ k.environments → AlikeHeaps pairs (AlikeFunctions c w) a b → Alone w.objects pairs k b → (root < length k.objects → RootStays k b) → Grown w h k a b
  objects_grown w h k x pairs more a b ea eb hs alone stays =
      let v = record w { objects = pairs } in
      let g : Later w v = record { objects = more; environments = λ e f i. i; home = λ e f i. refl; own = λ e f i. refl } in
      record {
        v = v;
        later = g;
        both = record {
          heaps = heaps-weaker pairs (AlikeFunctions c w) (AlikeFunctions c v) a b (λ m e n f r. functions_later m e n f g r) hs;
          environments = subst (λ es. Corresponds (AlikeEnvironments c.name v) no_environment w.environments es b.environments) (sym ea)
              (subst (λ es. Corresponds (AlikeEnvironments c.name v) no_environment w.environments h.environments es) (sym eb)
              (weaker _ _ no_environment w.environments _ _ (λ e f i y z r. environment_later g e f i y z r) x.environments));
          global = around_later g x.global;
        };
        untouched = record {
          objects = alone;
          environments = λ f lt apart. (apart, subst (λ es. f < length es) (sym eb) lt, ap (λ es. get_or es f no_environment) eb);
          own = λ e f n i o. ap (λ es. get_or (get_or es f no_environment).bindings n no_binding) eb;
          inherited = λ low. (root_bound hs, stays low);
          global = λ low. (subst (λ es. global_environment < length es) (sym eb) low, λ n e. (subst (λ (es : List Environment). place_in (get_or es global_environment no_environment).bindings (codes "globalThis") ≡ Some n) (sym eb) e, ap (λ es. get_or (get_or es global_environment no_environment).bindings n no_binding) eb));
          outers = λ z. subst (λ (es : List Environment). (f o : ℕ) → f < length es → (get_or es f no_environment).outer ≡ Some o → o < f) (sym eb) z;
          inner = λ e f n i o. i;
        };
      }

  abbrev pub new_grown : (w : World) (h k : Heap) (a b : ObjectKind) (p q : Option ℕ) → Both w h k → AlikeKinds w.objects (AlikeFunctions c w) a b → InBoth (Paired w.objects) p q → Made w h k (new_object a p h) (new_object b q k)
  new_grown w h k a b p q x r s = record {
    grown = objects_grown w h k x ((next_object h, next_object k) ∷ w.objects) (λ o n i. there i) _ _ refl refl
        (new_objects-alike w.objects (AlikeFunctions c w) h k a b p q x.heaps r s) (alone_new w.objects (next_object h) _ k) (root_new k _);
    pair = here;
  }

  abbrev pub define_grown : (w : World) (h k : Heap) (o n : ℕ) (a b : Property) → Both w h k → Paired w.objects o n → n ≢ root → AlikeProperties w.objects (AlikeFunctions c w) a b → Grown w h k (define o a h) (define n b k)
  define_grown w h k o n a b x i apart r = objects_grown w h k x w.objects (λ o n i. i) _ _ refl refl
      (define-alike w.objects (AlikeFunctions c w) h k o n x.heaps i a b r) (alone_set w.objects o n _ k i) (λ low. root_apart n _ k apart)

  abbrev pub deed_grown : (w : World) (h k : Heap) (d e : Deed) → Both w h k → RelatedDeeds (Paired w.objects) d e → ((a : Heap) → (after_deed d a).environments ≡ a.environments) → ((a : Heap) → (after_deed e a).environments ≡ a.environments) →
      ((o p : ℕ) → Paired w.objects o p → Paired (pairs_after (Ok d) w.objects h k) o p) → Grown w h k (after_deed d h) (after_deed e k)
  deed_grown w h k d e x r ed ee more = objects_grown w h k x (pairs_after (Ok d) w.objects h k) more _ _ (ed h) (ee k)
      (after-alike w.objects (AlikeFunctions c w) h k x.heaps d e r) (alone_deed w.objects h k d e r) (root_deed (Paired w.objects) k d e r)

  -- Environments

  abbrev pub environment : Option ℕ → List Binding → Environment
  environment o bs = record { outer = o; bindings = bs }

  abbrev pub pushed_heap : Environment → Heap → Heap
  pushed_heap x h = record h { environments = h.environments ++ x ∷ [] }

  abbrev pub with_new : World → (e f : ℕ) → Home → World
  with_new w e f h = record w { environments = (e, f) ∷ w.environments; home = at w.home f h; own = at w.own f None }

  pub later_new : (w : World) (h k : Heap) (home : Home) → Both w h k → Later w (with_new w (next_environment h) (next_environment k) home)
  later_new w h k home x = record {
    objects = λ n m i. i;
    environments = λ e f i. there i;
    home = λ e f i. at_other w.home (next_environment k) home f (λ z. (let l = x.environments.right_bound e f i in omega (arith, l, z)));
    own = λ e f i. at_other w.own (next_environment k) None f (λ z. (let l = x.environments.right_bound e f i in omega (arith, l, z)));
  }

  pub around_outer : (w v : World) (e f : ℕ) (h : Home) (a b : Option ℕ) → Later w v → AlikeOuter w h e f a b → AlikeOuter v h e f a b
  around_outer w v e f h a b g (no_outer z) = no_outer z
  around_outer w v e f h a b g (outers d q h' l l' z r) = outers d q h' l l' z (around_later g r)

  pub none_some : {n : ℕ} → None ≡ Some n → ⊥
  none_some e = cc

  -- what is around it is older
  pub outer_below : {w : World} {h : Home} {e f : ℕ} {u v : Option ℕ} {o : ℕ} → AlikeOuter w h e f u v → v ≡ Some o → o < f
  outer_below (no_outer z) t = absurd (none_some t)
  outer_below {f = f} {o = o} (outers c d g l l' z r) t = subst (λ n. n < f) (let s : d ≡ o = cc in s) l'

  pub less_of : (q n : ℕ) → (q ≡ n → ⊥) → q < suc n → q < n
  less_of q n ne lt = by (q == n) refl
    where
      by : (b : Bool) → (q == n) ≡ b → q < n
      by true e = absurd (ne (eqb-true q n e))
      by false e = grind (arith, nat_tests, lt, e)

  -- one of these names, that is no file's own
  abbrev pub environment_grown : (w : World) (h k : Heap) (home : Home) (a b : Option ℕ) (xs ys : List Binding) → Both w h k →
      AlikeOuter w home (next_environment h) (next_environment k) a b → AlikeNames c.name (with_new w (next_environment h) (next_environment k) home) home None xs ys →
      Opened home w h k (pushed_heap (environment a xs) h) (pushed_heap (environment b ys) k)
  environment_grown w h k home a b xs ys x out names =
      let e = next_environment h in
      let f = next_environment k in
      let v = with_new w e f home in
      let g = later_new w h k home x in
      let hs = heaps-weaker w.objects (AlikeFunctions c w) (AlikeFunctions c v) h k (λ m d n q r. functions_later m d n q g r) x.heaps in
      record {
        grown = record {
          v = v;
          later = g;
          both = record {
            heaps = record { objects = hs.objects; built_in = hs.built_in };
            environments = pairs_lemmas.grown (AlikeEnvironments c.name v) no_environment w.environments h.environments k.environments (environment a xs) (environment b ys)
                (weaker _ _ no_environment w.environments _ _ (λ d q i y z r. environment_later g d q i y z r) x.environments)
                (record {
                  outer = subst (λ z. AlikeOuter v (outer_home z (v.home f)) e f a b) (sym (at_same w.own f None))
                      (subst (λ z. AlikeOuter v z e f a b) (sym (at_same w.home f home)) (around_outer w v e f home a b g out));
                  names = subst (λ z. AlikeNames c.name v (v.home f) z xs ys) (sym (at_same w.own f None))
                      (subst (λ z. AlikeNames c.name v z None xs ys) (sym (at_same w.home f home)) names);
                });
            global = around_later g x.global;
          };
          untouched = record {
            objects = alone_same w.objects k;
            environments = λ q lt apart. (
              λ d i. ⊎_elim (λ z. omega (arith, z.1, lt)) (λ j. apart d j) (newest i),
              omega (arith, length_push k.environments (environment b ys), lt),
              get_or_append_left k.environments (environment b ys ∷ []) no_environment q lt,
            );
            own = λ d q n i z. ap (λ (env : Environment). get_or env.bindings n no_binding) (get_or_append_left k.environments (environment b ys ∷ []) no_environment q (x.environments.right_bound d q i));
            inherited = λ low. (low, root_at k (pushed_heap (environment b ys) k) refl);
            global = λ low. (
              omega (arith, length_push k.environments (environment b ys), low),
              λ n e. (
                ap (λ (env : Environment). place_in env.bindings (codes "globalThis")) (get_or_append_left k.environments (environment b ys ∷ []) no_environment global_environment low) ∙ e,
                ap (λ (env : Environment). get_or env.bindings n no_binding) (get_or_append_left k.environments (environment b ys ∷ []) no_environment global_environment low),
              ),
            );
            outers = λ z q o lt t. ⊎_elim
                (λ (s : q ≡ next_environment k). subst (λ n. o < n) (sym s)
                (outer_below out (sym (ap (λ (env : Environment). env.outer) (get_or_push k.environments (environment b ys) no_environment q (sym s))) ∙ t)))
                (λ (s : q ≡ next_environment k → ⊥). let l = length_push k.environments (environment b ys) in
                let below : q < next_environment k = less_of q (next_environment k) s (omega (arith, l, lt)) in
                z q o below (sym (ap (λ (env : Environment). env.outer) (get_or_append_left k.environments (environment b ys ∷ []) no_environment q below)) ∙ t))
                (cases_eq q (next_environment k));
            inner = λ d q n i z. ⊎_elim (λ y. absurd (none_some (sym (at_same w.own f None) ∙ ap (at w.own f None) (sym y.1) ∙ z))) (λ j. j) (newest i);
          };
        };
        around = record { pair = here; home = at_same w.home f home };
        inner = at_same w.own f None;
      }

  -- an environment of a pair is written to, and its file's own name isn't
  abbrev pub with_environment : ℕ → Environment → Heap → Heap
  with_environment e x h = record h { environments = set h.environments e x }

  abbrev pub environment_written : (w : World) (h k : Heap) (e f : ℕ) (x y : Environment) → Both w h k → Paired w.environments e f → AlikeEnvironments c.name w e f x y →
      ((n : ℕ) → w.own f ≡ Some n → get_or y.bindings n no_binding ≡ get_or (environment_at k f).bindings n no_binding) → GlobalStays (environment_at k f).bindings y.bindings →
      Grown w h k (with_environment e x h) (with_environment f y k)
  environment_written w h k e f x y a i r own stays = record {
    v = w;
    later = later_same w;
    both = record {
      heaps = record { objects = a.heaps.objects; built_in = a.heaps.built_in };
      environments = pairs_lemmas.written (AlikeEnvironments c.name w) no_environment w.environments h.environments k.environments e f x y a.environments i r;
      global = a.global;
    };
    untouched = record {
      objects = alone_same w.objects k;
      environments = λ q lt apart. (
        apart,
        subst (λ n. q < n) (sym (length-set k.environments f y)) lt,
        get_or-set_other k.environments f q y no_environment (λ z. apart e (subst (λ n. Paired w.environments e n) (sym z) i)),
      );
      own = λ d q n j o. ⊎_elim
          (λ (z : q ≡ f).
          ap (λ (env : Environment). get_or env.bindings n no_binding) (ap (λ m. get_or (set k.environments f y) m no_environment) z ∙ get_or-set_same k.environments f y no_environment (a.environments.right_bound e f i))
          ∙ own n (sym (ap w.own z) ∙ o) ∙ ap (λ m. get_or (environment_at k m).bindings n no_binding) (sym z))
          (λ (z : q ≡ f → ⊥). ap (λ (env : Environment). get_or env.bindings n no_binding) (get_or-set_other k.environments f q y no_environment z))
          (cases_eq q f);
      inherited = λ low. (low, root_at k (with_environment f y k) refl);
      global = λ low. (
        subst (λ n. global_environment < n) (sym (length-set k.environments f y)) low,
        ⊎_elim
            (λ (z : global_environment ≡ f).
            subst (λ (env : Environment). GlobalStays (environment_at k global_environment).bindings env.bindings)
            (sym (ap (λ m. get_or (set k.environments f y) m no_environment) z ∙ get_or-set_same k.environments f y no_environment (a.environments.right_bound e f i)))
            (subst (λ m. GlobalStays (environment_at k m).bindings y.bindings) (sym z) stays))
            (λ (z : global_environment ≡ f → ⊥). λ n t. (
              ap (λ (env : Environment). place_in env.bindings (codes "globalThis")) (get_or-set_other k.environments f global_environment y no_environment z) ∙ t,
              ap (λ (env : Environment). get_or env.bindings n no_binding) (get_or-set_other k.environments f global_environment y no_environment z),
            ))
            (cases_eq global_environment f),
      );
      outers = λ z q o lt t. ⊎_elim
          (λ (s : q ≡ f). subst (λ n. o < n) (sym s)
          (outer_below r.outer (sym (ap (λ (env : Environment). env.outer) (ap (λ m. get_or (set k.environments f y) m no_environment) s ∙ get_or-set_same k.environments f y no_environment (a.environments.right_bound e f i))) ∙ t)))
          (λ (s : q ≡ f → ⊥). z q o (subst (λ n. q < n) (length-set k.environments f y) lt) (sym (ap (λ (env : Environment). env.outer) (get_or-set_other k.environments f q y no_environment s)) ∙ t))
          (cases_eq q f);
      inner = λ d q n j o. j;
    };
  }

  -- Stores

  pub both_of : {w : World} {s t : Store} → AlikeStores c w s t → Both w s.heap t.heap
  both_of x = record { heaps = x.heaps; environments = x.environments; global = x.global }

  module _ (k : Keeps c) where
    pub stores_grown : {w : World} {a b : Heap} (s t : Store) → AlikeStores c w s t → (g : Grown w s.heap t.heap a b) → AlikeStores c g.v (record s { heap = a }) (record t { heap = b })
    stores_grown {w} {a} {b} s t x g = record {
      heaps = g.both.heaps;
      environments = g.both.environments;
      global = g.both.global;
      cache = cache_later g.later _ _ x.cache;
      requiring = requiring_later g.later _ _ x.requiring;
      output = x.output;
      hidden = k.keeps w g.v s.log s.started t.heap b g.later g.untouched x.hidden;
    }

-- the same answer of both, or related ones
pub data AlikeOr {A : Type 0} (R : A → A → Type 0) : Or A → Or A → Type 0 where
  oks : {a b : A} → R a b → AlikeOr R (Ok a) (Ok b)
  errs : (z : Halt) → AlikeOr R (Err z) (Err z)

-- a change that may be stopped
pub record Changes (c : Setting) (w : World) (h j : Heap) (a b : Copied) : Type 0 where
  pub grown : Grown c w h j a.heap b.heap
  pub halts : a.halt ≡ b.halt
