-- Names are looked up and assigned to in both runs.
use Rattle.std.proofs.Common.{◌≡◌, ◌≢◌, codes, [], ℕ, zero, suc, ◌<◌, List, get_or, set, Option, Some, None, refl, sym, ap, ◌∙◌, subst, ⊎_elim, arith}
use Rattle.std.specs.Prelude.{option_map}
use Rattle.std.proofs.lemmas.Slice.Eq.{bytes_eq-Decides}
use Rattle.std.proofs.lemmas.List.{get_or-set_other}
use Rattle.js_value.specs.declared.value.Value.{Value}
use Rattle.js_value.specs.State.{Binding, Heap}
use Rattle.js_value.specs.Environments.{Assign, Done, Dead, Constant, no_binding, environment_at, Cell, place_of, resolved, lookup, value_of, assign_to, assign_answer, assigned, assign, init, assign_name, init_name}
use Rattle.js_two_runs.specs.Pairs.{Paired}
use Rattle.js_two_runs.specs.TwoRuns.{InBoth, neither, both, Related}
use Rattle.js_suits.specs.Settings.{Home, Outside, Within, World, Setting, IsFree}
use Rattle.js_lockstep.specs.Worlds.{Encloses, Around, held, AlikeOuter, no_outer, outers, outer_home, place}
use Rattle.js_lockstep.proofs.Heaps.{Both, Grown, grown_same, environment_written}
use Rattle.js_lockstep.proofs.Names.{named_there, named_kept, same_place, at_place, changed_at, not_at_own, assigned_alike, answer_alike, contents_of}

module _ (c : Setting) where
  no_name : [] ≡ codes "globalThis" → ⊥
  no_name e = cc

  -- Looking a name up

  pub data AlikeFound (w : World) (h j : Heap) : Option Cell → Option Cell → Type 0 where
    not_found : AlikeFound w h j None None
    found : (e f i : ℕ) → Paired w.environments e f →
        InBoth (Related (Paired w.objects)) (value_of h (record { environment = e; place = i })) (value_of j (record { environment = f; place = place (w.own f) i })) →
        assign_answer h (record { environment = e; place = i }) ≡ assign_answer j (record { environment = f; place = place (w.own f) i }) →
        (get_or (environment_at j f).bindings (place (w.own f) i) no_binding).name ≢ codes "globalThis" →
        AlikeFound w h j (Some (record { environment = e; place = i })) (Some (record { environment = f; place = place (w.own f) i }))

  free_around : (g h : Home) (x : List ℕ) → Encloses g h → IsFree c.name h x → IsFree c.name g x
  free_around (Outside part) h x z f = record { other = tt; not_global = f.not_global }
  free_around (Within file) (Outside part) x z f = absurd z
  free_around (Within file) (Within other) x z f = subst (λ g. IsFree c.name g x) (sym z) f

  pub free_outer : (h : Home) (o : Option ℕ) (x : List ℕ) → IsFree c.name h x → IsFree c.name (outer_home o h) x
  free_outer h None x f = f
  free_outer h (Some n) x f = record { other = tt; not_global = f.not_global }

  module _ (w : World) (s t : Heap) (a : Both c w s t) (x : List ℕ) where
    at_found : (h : Home) (e f : ℕ) → Around w h e f → IsFree c.name h x → (i : ℕ) → place_of (environment_at s e) x ≡ Some i →
        AlikeFound w s t (Some (record { environment = e; place = i })) (Some (record { environment = f; place = place (w.own f) i }))
    at_found h e f r free i at =
        let there = (a.environments.related e f r.pair).names in
        ⊎_elim
        (λ b.
        let named : (get_or (environment_at s e).bindings i no_binding).name ≡ x = (bytes_eq-Decides _ x).0 (named_there x (environment_at s e).bindings i at) in
        found e f i r.pair (contents_of c.name w (w.home f) _ _ b (λ z. free.not_global (sym named ∙ z))) (answer_alike c.name w (w.home f) _ _ b) (λ z. free.not_global (sym named ∙ b.names ∙ z)))
        (λ z. found e f i r.pair
        (subst (λ b. InBoth (Related (Paired w.objects)) b.value (get_or (environment_at t f).bindings (place (w.own f) i) no_binding).value) (sym z.0)
        (subst (λ b. InBoth (Related (Paired w.objects)) no_binding.value b.value) (sym z.1) neither))
        (ap assign_to z.0 ∙ sym (ap assign_to z.1))
        (λ y. no_name (sym (ap (λ (b : Binding). b.name) z.1) ∙ y)))
        (at_place c.name w (w.home f) (w.own f) _ _ there i)

    chosen : (e f : ℕ) (m n : Option ℕ) (u v : Option Cell) → n ≡ option_map (place (w.own f)) m →
        ((i : ℕ) → m ≡ Some i → AlikeFound w s t (Some (record { environment = e; place = i })) (Some (record { environment = f; place = place (w.own f) i }))) →
        AlikeFound w s t u v →
        AlikeFound w s t (elim m [ Some at ↦ Some (record { environment = e; place = at }) | None ↦ u ]) (elim n [ Some at ↦ Some (record { environment = f; place = at }) | None ↦ v ])
    chosen e f None n u v z go above = subst (λ o. AlikeFound w s t u (elim o [ Some at ↦ Some (record { environment = f; place = at }) | None ↦ v ])) (sym z) above
    chosen e f (Some i) n u v z go above =
        subst (λ o. AlikeFound w s t (Some (record { environment = e; place = i })) (elim o [ Some at ↦ Some (record { environment = f; place = at }) | None ↦ v ])) (sym z) (go i refl)

    none_resolved : (m : ℕ) (h : Heap) → resolved m h.environments None x ≡ None
    none_resolved zero h = refl
    none_resolved (suc m) h = refl

    outward : (m n : ℕ) (h : Home) (e f : ℕ) (u v : Option ℕ) → AlikeOuter w h e f u v →
        ((d g : ℕ) (h' : Home) → Encloses h' h → Around w h' d g → d < e → g < f → AlikeFound w s t (resolved m s.environments (Some d) x) (resolved n t.environments (Some g) x)) →
        AlikeFound w s t (resolved m s.environments u x) (resolved n t.environments v x)
    outward m n h e f _ _ (no_outer z) go =
        subst (λ o. AlikeFound w s t o (resolved n t.environments None x)) (sym (none_resolved m s)) (subst (λ o. AlikeFound w s t None o) (sym (none_resolved n t)) not_found)
    outward m n h e f _ _ (outers d g h' l l' z r) go = go d g h' z r l l'

    resolved_alike : (m n : ℕ) (h : Home) (e f : ℕ) → Around w h e f → IsFree c.name h x → e < m → f < n → AlikeFound w s t (resolved m s.environments (Some e) x) (resolved n t.environments (Some f) x)
    resolved_alike zero n h e f r free lt lt' = absurd (omega (arith, lt))
    resolved_alike (suc m) zero h e f r free lt lt' = absurd (omega (arith, lt'))
    resolved_alike (suc m) (suc n) h e f r free lt lt' =
        let there = a.environments.related e f r.pair in
        let free' : IsFree c.name (w.home f) x = subst (λ z. IsFree c.name z x) (sym r.home) free in
        chosen e f _ _ _ _ (same_place c.name w (w.home f) x free'.other (w.own f) _ _ there.names)
        (λ i at. at_found h e f r free i at)
        (outward m n (outer_home (w.own f) (w.home f)) e f _ _ there.outer (λ d g h' z r' l l'. resolved_alike m n h' d g r' (free_around h' (outer_home (w.own f) (w.home f)) x z (free_outer (w.home f) (w.own f) x free')) (omega (arith, l, lt)) (omega (arith, l', lt'))))

    pub lookup_alike : (h : Home) (e f : ℕ) → Around w h e f → IsFree c.name h x → AlikeFound w s t (lookup s e x) (lookup t f x)
    lookup_alike h e f r free = resolved_alike (suc e) (suc f) h e f r free (omega arith) (omega arith)

  -- An assignment to a name's cell

  pub assigned_name : (a : Assign) (v : Value) (b : Binding) → (assigned a v b).name ≡ b.name
  assigned_name Done v b = refl
  assigned_name Dead v b = refl
  assigned_name Constant v b = refl

  pub own_kept : (w : World) (h : Home) (xs : List Binding) (o : Option ℕ) (n i : ℕ) (b : Binding) → o ≡ Some n → get_or (set xs (place o i) b) n no_binding ≡ get_or xs n no_binding
  own_kept w h xs o n i b z =
      subst (λ o. get_or (set xs (place o i) b) n no_binding ≡ get_or xs n no_binding) (sym z)
      (get_or-set_other xs (place (Some n) i) n b no_binding (λ y. not_at_own c.name w h n i (sym y)))

  abbrev pub assign_grown : (w : World) (h l : Heap) (e f i : ℕ) (v u : Value) → Paired w.environments e f → Related (Paired w.objects) v u → (get_or (environment_at l f).bindings (place (w.own f) i) no_binding).name ≢ codes "globalThis" → Both c w h l →
      Grown c w h l (assign (record { environment = e; place = i }) v h) (assign (record { environment = f; place = place (w.own f) i }) u l)
  assign_grown w h l e f i v u p r ne a =
      let there = a.environments.related e f p in
      environment_written c w h l e f _ _ a p
      (record { outer = there.outer; names = changed_at c.name w (w.home f) (λ b. assigned (assign_to b) v b) (λ b. assigned (assign_to b) u b) (assigned_alike c.name w (w.home f) v u r) (w.own f) _ _ there.names i })
      (λ n own. own_kept w (w.home f) (environment_at l f).bindings (w.own f) n i _ own)
      (λ n at. named_kept (codes "globalThis") (environment_at l f).bindings (place (w.own f) i) _ n (assigned_name (assign_answer l (record { environment = f; place = place (w.own f) i })) u _) ne at)

  abbrev pub init_grown : (w : World) (h l : Heap) (e f i : ℕ) (v u : Value) → Paired w.environments e f → Related (Paired w.objects) v u → (get_or (environment_at l f).bindings (place (w.own f) i) no_binding).name ≢ codes "globalThis" → Both c w h l →
      Grown c w h l (init (record { environment = e; place = i }) v h) (init (record { environment = f; place = place (w.own f) i }) u l)
  init_grown w h l e f i v u p r ne a =
      let there = a.environments.related e f p in
      environment_written c w h l e f _ _ a p
      (record { outer = there.outer; names = changed_at c.name w (w.home f) (λ b. record b { value = Some v }) (λ b. record b { value = Some u }) (λ x y b. record { names = b.names; other = b.other; contents = held (both v u r); constants = b.constants }) (w.own f) _ _ there.names i })
      (λ n own. own_kept w (w.home f) (environment_at l f).bindings (w.own f) n i _ own)
      (λ n at. named_kept (codes "globalThis") (environment_at l f).bindings (place (w.own f) i) _ n refl ne at)

  -- Names are assigned to where they are found

  assign_found : (w : World) (h l : Heap) (a b : Option Cell) (v u : Value) → Both c w h l → Related (Paired w.objects) v u → AlikeFound w h l a b →
      Grown c w h l (elim a [ None ↦ h | Some cell ↦ assign cell v h ]) (elim b [ None ↦ l | Some cell ↦ assign cell u l ])
  assign_found w h l _ _ v u x r not_found = grown_same c x
  assign_found w h l _ _ v u x r (found e f i s y a ne) = assign_grown w h l e f i v u s r ne x

  pub assign_name_grown : (w : World) (h l : Heap) (home : Home) (e f : ℕ) (x : List ℕ) (v u : Value) → Both c w h l → Around w home e f → IsFree c.name home x → Related (Paired w.objects) v u →
      Grown c w h l (assign_name e x v h) (assign_name f x u l)
  assign_name_grown w h l home e f x v u b r free s = assign_found w h l (lookup h e x) (lookup l f x) v u b s (lookup_alike w h l b x home e f r free)

  init_found : (w : World) (h l : Heap) (a b : Option Cell) (v u : Value) → Both c w h l → Related (Paired w.objects) v u → AlikeFound w h l a b →
      Grown c w h l (elim a [ None ↦ h | Some cell ↦ init cell v h ]) (elim b [ None ↦ l | Some cell ↦ init cell u l ])
  init_found w h l _ _ v u x r not_found = grown_same c x
  init_found w h l _ _ v u x r (found e f i s y a ne) = init_grown w h l e f i v u s r ne x

  pub init_name_grown : (w : World) (h l : Heap) (home : Home) (e f : ℕ) (x : List ℕ) (v u : Value) → Both c w h l → Around w home e f → IsFree c.name home x → Related (Paired w.objects) v u →
      Grown c w h l (init_name e x v h) (init_name f x u l)
  init_name_grown w h l home e f x v u b r free s = init_found w h l (lookup h e x) (lookup l f x) v u b s (lookup_alike w h l b x home e f r free)

  pub answers_same : (w : World) (h l : Heap) {a b : Option Cell} → AlikeFound w h l a b → option_map (assign_answer h) a ≡ option_map (assign_answer l) b
  answers_same w h l not_found = refl
  answers_same w h l (found e f i s y a ne) = ap (λ z. Some z) a
