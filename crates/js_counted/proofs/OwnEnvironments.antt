-- A counted file's own environment: it is made in both runs, with one name more on the right; and there that name's value changes.
use Rattle.std.proofs.Common.{◌≡◌, ◌≢◌, ℕ, ◌<◌, List, ◌∷◌, length, set, Some, sym, subst, ⊎_elim, arith}
use Rattle.std.proofs.lemmas.Bool.{cases_eq}
use Rattle.js_value.specs.State.{Binding, Heap}
use Rattle.js_value.specs.Objects.{no_object}
use Rattle.js_value.specs.Environments.{no_environment, next_environment, environment_at}
use Rattle.js_two_runs.specs.Pairs.{Paired, here, there}
use Rattle.js_two_runs.proofs.PairsLemmas.{weaker}
use Rattle.js_two_runs.proofs.PairsLemmas as pairs_lemmas
use Rattle.js_two_runs.proofs.TwoHeapsLater.{heaps-weaker}
use Rattle.js_suits.specs.Settings.{Home, Outside, Within, World, Setting, IsOwn}
use Rattle.js_lockstep.specs.Worlds.{Later, Around, AlikeNames, own_name, names_before, AlikeOuter, outers, outer_home, AlikeEnvironments, AlikeFunctions}
use Rattle.js_lockstep.proofs.Later.{around_later, functions_later, names_later, environment_later}
use Rattle.js_lockstep.proofs.Heaps.{Both, at, at_same, at_other}
use Rattle.js_counter.proofs.Heaps.{pushed, env_of}
use Rattle.js_counted.proofs.Alone.{corresponds_alone, ObjectsStay}

-- the own name's binding may change
own_set : (name : ℕ → List ℕ) (w : World) (h : Home) (n : ℕ) (xs ys : List Binding) (b : Binding) → IsOwn name h b.name → AlikeNames name w h (Some n) xs ys → AlikeNames name w h (Some n) xs (set ys n b)
own_set name w h _ _ _ b own (own_name is t) = own_name own t
own_set name w h _ _ _ b own (names_before r t) = names_before r (own_set name w h _ _ _ b own t)

module _ (c : Setting) (w : World) (h k l : Heap) (x : Both c w h k) (file e f n : ℕ) (r : Around w (Within file) e f) (own : w.own f ≡ Some n) (b : Binding) (named : b.name ≡ c.name file)
    (objects : ObjectsStay w k l) (size : (d g : ℕ) → Paired w.environments d g → g < length l.environments)
    (others : (d g : ℕ) → Paired w.environments d g → g ≢ f → environment_at l g ≡ environment_at k g)
    (changed : environment_at l f ≡ record { outer = (environment_at k f).outer; bindings = set (environment_at k f).bindings n b }) where
  own_environment : AlikeEnvironments c.name w e f (environment_at h e) (environment_at l f)
  own_environment =
      let there = x.environments.related e f r.pair in
      subst (λ y. AlikeEnvironments c.name w e f (environment_at h e) y) (sym changed)
      (record {
        outer = there.outer;
        names = subst (λ o. AlikeNames c.name w (w.home f) o (environment_at h e).bindings (set (environment_at k f).bindings n b)) (sym own)
            (own_set c.name w (w.home f) n _ _ b (subst (λ g. IsOwn c.name g b.name) (sym r.home) named)
            (subst (λ o. AlikeNames c.name w (w.home f) o (environment_at h e).bindings (environment_at k f).bindings) own there.names));
      })

  pub both_own : Both c w h l
  both_own = record {
    heaps = record { objects = corresponds_alone _ no_object w.objects h.objects k.objects l.objects x.heaps.objects objects; built_in = x.heaps.built_in };
    environments = record {
      related = λ d g i. ⊎_elim
          (λ (z : g ≡ f).
          let s : d ≡ e = x.environments.one_left d e g i (subst (λ m. Paired w.environments e m) (sym z) r.pair) in
          subst (λ m. AlikeEnvironments c.name w d m (environment_at h d) (environment_at l m)) (sym z) (subst (λ m. AlikeEnvironments c.name w m f (environment_at h m) (environment_at l f)) (sym s) own_environment))
          (λ (z : g ≡ f → ⊥). subst (λ y. AlikeEnvironments c.name w d g (environment_at h d) y) (sym (others d g i z)) (x.environments.related d g i))
          (cases_eq g f);
      left_bound = x.environments.left_bound;
      right_bound = size;
      one_right = x.environments.one_right;
      one_left = x.environments.one_left;
    };
    global = x.global;
  }

-- it is made

abbrev pub with_own : World → (e f : ℕ) → Home → ℕ → World
with_own w e f h n = record w { environments = (e, f) ∷ w.environments; home = at w.home f h; own = at w.own f (Some n) }

module _ (c : Setting) (w : World) (h k : Heap) (x : Both c w h k) (file n : ℕ) (xs ys : List Binding) (names : AlikeNames c.name w (Within file) (Some n) xs ys) where
  abbrev e : ℕ
  e = next_environment h

  abbrev f : ℕ
  f = next_environment k

  abbrev pub v : World
  v = with_own w (next_environment h) (next_environment k) (Within file) n

  pub later : Later w v
  later = record {
    objects = λ o m i. i;
    environments = λ d g i. there i;
    home = λ d g i. at_other w.home (next_environment k) (Within file) g (λ z. (let l = x.environments.right_bound d g i in omega (arith, l, z)));
    own = λ d g i. at_other w.own (next_environment k) (Some n) g (λ z. (let l = x.environments.right_bound d g i in omega (arith, l, z)));
  }

  outer : AlikeOuter v (Outside 0) (next_environment h) (next_environment k) (Some 0) (Some 0)
  outer = outers 0 0 (Outside 0) (x.environments.left_bound 0 0 x.global.pair) (x.environments.right_bound 0 0 x.global.pair) tt (around_later later x.global)

  pub made : Both c v (pushed (env_of 0 xs) h) (pushed (env_of 0 ys) k)
  made =
      let hs = heaps-weaker w.objects (AlikeFunctions c w) (AlikeFunctions c v) h k (λ m d o q r. functions_later m d o q later r) x.heaps in
      record {
        heaps = record { objects = hs.objects; built_in = hs.built_in };
        environments = pairs_lemmas.grown (AlikeEnvironments c.name v) no_environment w.environments h.environments k.environments (env_of 0 xs) (env_of 0 ys)
            (weaker _ _ no_environment w.environments _ _ (λ d q i y z r. environment_later later d q i y z r) x.environments)
            (record {
              outer = subst (λ z. AlikeOuter v (outer_home z (v.home (next_environment k))) (next_environment h) (next_environment k) (Some 0) (Some 0)) (sym (at_same w.own (next_environment k) (Some n))) outer;
              names = subst (λ z. AlikeNames c.name v (v.home (next_environment k)) z xs ys) (sym (at_same w.own (next_environment k) (Some n)))
                  (subst (λ z. AlikeNames c.name v z (Some n) xs ys) (sym (at_same w.home (next_environment k) (Within file))) (names_later later names));
            });
        global = around_later later x.global;
      }

  pub around : Around v (Within file) (next_environment h) (next_environment k)
  around = record { pair = here; home = at_same w.home (next_environment k) (Within file) }

  pub is_own : v.own (next_environment k) ≡ Some n
  is_own = at_same w.own (next_environment k) (Some n)
