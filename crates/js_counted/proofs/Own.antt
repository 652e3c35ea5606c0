-- The name of a file's function is found in the file's own environment.
use Rattle.std.proofs.Common.{◌≡◌, ℕ, zero, suc, ◌<◌, List, Option, Some, None, refl, sym, ap, ◌∙◌, subst, arith, false}
use Rattle.std.specs.Prelude.{option_map}
use Rattle.std.proofs.lemmas.Slice.Eq.{bytes_eq-Decides}
use Rattle.js_value.specs.State.{Binding, Store}
use Rattle.js_value.specs.Environments.{environment_at, Cell, place_in, place_of, resolved, lookup}
use Rattle.js_suits.specs.Settings.{Within, World, Setting}
use Rattle.js_lockstep.specs.Worlds.{Around, AlikeBindings, AlikeNames, no_names, more_names, own_name, names_before, AlikeOuter, no_outer, outers, outer_home, AlikeStores}
use Rattle.js_lockstep.proofs.Names.{by, differs, found_first, found_later}

module _ (c : Setting) (w : World) (file : ℕ) where
  abbrev name : List ℕ
  name = c.name file

  -- a name of the source isn't it
  other_side : (x y : Binding) → AlikeBindings c.name w (Within file) x y → by name y ≡ false
  other_side x y r = differs y.name name (λ e. r.other (r.names ∙ e))

  not_inner : (xs ys : List Binding) → AlikeNames c.name w (Within file) None xs ys → place_in ys name ≡ None
  not_inner _ _ no_names = refl
  not_inner _ _ (more_names {x = x} {y = y} {ys = ys} r t) = found_later name y ys (other_side x y r) ∙ ap (option_map (λ i. suc i)) (not_inner _ _ t)

  pub own_place : (n : ℕ) (xs ys : List Binding) → AlikeNames c.name w (Within file) (Some n) xs ys → place_in ys name ≡ Some n
  own_place _ _ _ (own_name {b = b} {ys = ys} e t) = found_first name b ys ((bytes_eq-Decides b.name name).1 e)
  own_place _ _ _ (names_before {n = n} {x = x} {y = y} {ys = ys} r t) = found_later name y ys (other_side x y r) ∙ ap (option_map (λ i. suc i)) (own_place n _ _ t)

  -- where it is found
  pub record OwnFound (o : Option Cell) : Type 0 where
    pub e : ℕ
    pub f : ℕ
    pub n : ℕ
    pub is : o ≡ Some (record { environment = f; place = n })
    pub around : Around w (Within file) e f
    pub own : w.own f ≡ Some n

  module _ (s t : Store) (x : AlikeStores c w s t) where
    own_resolved : (m e f : ℕ) → Around w (Within file) e f → f < m → OwnFound (resolved m t.heap.environments (Some f) name)
    own_resolved zero e f r lt = absurd (omega (arith, lt))
    own_resolved (suc m) e f r lt =
        let there = x.environments.related e f r.pair in
        let names : AlikeNames c.name w (Within file) (w.own f) (environment_at s.heap e).bindings (environment_at t.heap f).bindings =
        subst (λ h. AlikeNames c.name w h (w.own f) (environment_at s.heap e).bindings (environment_at t.heap f).bindings) r.home there.names
        in
        let outer : AlikeOuter w (outer_home (w.own f) (Within file)) e f (environment_at s.heap e).outer (environment_at t.heap f).outer =
        subst (λ h. AlikeOuter w (outer_home (w.own f) h) e f (environment_at s.heap e).outer (environment_at t.heap f).outer) r.home there.outer
        in
        by_own (w.own f) refl names (outward (environment_at s.heap e).outer (environment_at t.heap f).outer (w.own f) outer (λ d g r' l. own_resolved m d g r' (omega (arith, l, lt))))
      where
        outward : (u v : Option ℕ) (o : Option ℕ) → AlikeOuter w (outer_home o (Within file)) e f u v → ((d g : ℕ) → Around w (Within file) d g → g < f → OwnFound (resolved m t.heap.environments (Some g) name)) →
            o ≡ None → OwnFound (resolved m t.heap.environments v name)
        outward _ _ None (no_outer z) go y = absurd z
        outward _ _ None (outers d g h' l l' z r') go y = go d g (subst (λ h. Around w h d g) z r') l'
        outward u v (Some n) out go y = absurd (let z = y in cc)

        by_own : (o : Option ℕ) → w.own f ≡ o → AlikeNames c.name w (Within file) (w.own f) (environment_at s.heap e).bindings (environment_at t.heap f).bindings →
            (w.own f ≡ None → OwnFound (resolved m t.heap.environments (environment_at t.heap f).outer name)) → OwnFound (resolved (suc m) t.heap.environments (Some f) name)
        by_own None z names go =
            let none : place_of (environment_at t.heap f) name ≡ None = not_inner _ _ (subst (λ o. AlikeNames c.name w (Within file) o (environment_at s.heap e).bindings (environment_at t.heap f).bindings) z names) in
            subst (λ o. OwnFound (elim o [ Some at ↦ Some (record { environment = f; place = at }) | None ↦ resolved m t.heap.environments (environment_at t.heap f).outer name ])) (sym none) (go z)
        by_own (Some n) z names go =
            let at : place_of (environment_at t.heap f) name ≡ Some n = own_place n _ _ (subst (λ o. AlikeNames c.name w (Within file) o (environment_at s.heap e).bindings (environment_at t.heap f).bindings) z names) in
            record {
              e = e;
              f = f;
              n = n;
              is = ap (λ o. elim o [ Some at ↦ Some (record { environment = f; place = at }) | None ↦ resolved m t.heap.environments (environment_at t.heap f).outer name ]) at;
              around = r;
              own = z;
            }

    pub own_lookup : (e f : ℕ) → Around w (Within file) e f → OwnFound (lookup t.heap f name)
    own_lookup e f r = own_resolved (suc f) e f r (omega arith)
