-- Names of two environments: where one is found, and what a change of it leaves.
use Rattle.std.proofs.Common.{◌≡◌, ◌≢◌, ℕ, zero, suc, ◌<◌, Bool, true, false, List, [], ◌∷◌, ◌++◌, length, get_or, set, refl, sym, ap, ◌∙◌, subst, ◌⊎◌, inl, inr, arith, Option, Some, None, codes, if◌then◌else◌}
use Rattle.std.specs.Prelude.{option_map}
use Rattle.std.specs.Str.{bytes_eq}
use Rattle.std.proofs.lemmas.Bool.{false_from_ne_true}
use Rattle.std.proofs.lemmas.List.{get_or-set_other}
use Rattle.std.proofs.lemmas.Slice.Eq.{bytes_eq-Decides}
use Rattle.js_value.specs.declared.value.Value.{Value}
use Rattle.js_value.specs.State.{Binding}
use Rattle.js_value.specs.Environments as Environments
use Rattle.js_value.specs.Environments.{no_binding, place_in, assign_to, assigned}
use Rattle.js_two_runs.specs.Pairs.{Paired}
use Rattle.js_two_runs.specs.TwoRuns.{InBoth, neither, both, Related}
use Rattle.js_suits.specs.Settings.{Home, Outside, Within, World, IsOther, IsOwn}
use Rattle.js_lockstep.specs.Worlds.{AlikeContents, held, global_this, AlikeBindings, AlikeNames, no_names, more_names, own_name, names_before, place}

pub differs : (x y : List ℕ) → x ≢ y → bytes_eq x y ≡ false
differs x y ne = false_from_ne_true (bytes_eq x y) (λ e. ne ((bytes_eq-Decides x y).0 e))

abbrev pub by : List ℕ → Binding → Bool
by x b = bytes_eq b.name x

pub found_first : (x : List ℕ) (b : Binding) (bs : List Binding) → by x b ≡ true → place_in (b ∷ bs) x ≡ Some 0
found_first x b bs e = ap (λ (t : Bool). if t then Some 0 else option_map (λ i. suc i) (place_in bs x)) e

pub found_later : (x : List ℕ) (b : Binding) (bs : List Binding) → by x b ≡ false → place_in (b ∷ bs) x ≡ option_map (λ i. suc i) (place_in bs x)
found_later x b bs e = ap (λ (t : Bool). if t then Some 0 else option_map (λ i. suc i) (place_in bs x)) e

not_first : (o : Option ℕ) → option_map (λ i. suc i) o ≡ Some 0 → ⊥
not_first None e = cc
not_first (Some n) e = cc

past_first : (o : Option ℕ) (i : ℕ) → option_map (λ i. suc i) o ≡ Some (suc i) → o ≡ Some i
past_first None i e = absurd cc
past_first (Some n) i e = cc

-- what is found has the name
pub named_there : (x : List ℕ) (bs : List Binding) (i : ℕ) → place_in bs x ≡ Some i → by x (get_or bs i no_binding) ≡ true
named_there x [] i e = absurd cc
named_there x (b ∷ bs) zero e = go (by x b) refl
  where
    go : (t : Bool) → by x b ≡ t → by x b ≡ true
    go true z = z
    go false z = absurd (not_first (place_in bs x) (sym (found_later x b bs z) ∙ e))
named_there x (b ∷ bs) (suc i) e = go (by x b) refl (named_there x bs i)
  where
    go : (t : Bool) → by x b ≡ t → (place_in bs x ≡ Some i → by x (get_or bs i no_binding) ≡ true) → by x (get_or bs i no_binding) ≡ true
    go true z further = absurd (let y : Some 0 ≡ Some (suc i) = sym (found_first x b bs z) ∙ e in cc)
    go false z further = further (past_first (place_in bs x) i (sym (found_later x b bs z) ∙ e))

-- a name stays at its place where more names follow, and where another one's binding changes
pub place_appended : (x : List ℕ) (bs cs : List Binding) (n : ℕ) → place_in bs x ≡ Some n → place_in (bs ++ cs) x ≡ Some n
place_appended x [] cs n e = absurd cc
place_appended x (b ∷ bs) cs n e = go (by x b) e (λ m. place_appended x bs cs m)
  where
    more : (o : Option ℕ) → ((m : ℕ) → o ≡ Some m → place_in (bs ++ cs) x ≡ Some m) → option_map (λ i. suc i) o ≡ Some n → option_map (λ i. suc i) (place_in (bs ++ cs) x) ≡ Some n
    more None rest f = absurd (let z = f in cc)
    more (Some m) rest f = ap (option_map (λ i. suc i)) (rest m refl) ∙ f

    go : (t : Bool) → (if t then Some 0 else option_map (λ i. suc i) (place_in bs x)) ≡ Some n → ((m : ℕ) → place_in bs x ≡ Some m → place_in (bs ++ cs) x ≡ Some m) →
        (if t then Some 0 else option_map (λ i. suc i) (place_in (bs ++ cs) x)) ≡ Some n
    go true f rest = f
    go false f rest = more (place_in bs x) rest f

pub place_below : (x : List ℕ) (bs : List Binding) (n : ℕ) → place_in bs x ≡ Some n → n < length bs
place_below x [] n e = absurd cc
place_below x (b ∷ bs) n e = go (by x b) e (place_below x bs)
  where
    more : (o : Option ℕ) → ((m : ℕ) → o ≡ Some m → m < length bs) → option_map (λ i. suc i) o ≡ Some n → n < suc (length bs)
    more None rest f = absurd (let z = f in cc)
    more (Some m) rest f = let l = rest m refl in let z : suc m ≡ n = cc in omega (arith, l, z)

    go : (t : Bool) → (if t then Some 0 else option_map (λ i. suc i) (place_in bs x)) ≡ Some n → ((m : ℕ) → place_in bs x ≡ Some m → m < length bs) → n < suc (length bs)
    go true f rest = let z : 0 ≡ n = cc in omega (arith, z)
    go false f rest = more (place_in bs x) rest f

place_set : (x : List ℕ) (bs : List Binding) (i : ℕ) (b : Binding) → b.name ≡ (get_or bs i no_binding).name → place_in (set bs i b) x ≡ place_in bs x
place_set x [] i b e = refl
place_set x (a ∷ bs) zero b e = ap (λ (name : List ℕ). if bytes_eq name x then Some 0 else option_map (λ i. suc i) (place_in bs x)) e
place_set x (a ∷ bs) (suc i) b e = ap (λ o. if by x a then Some 0 else option_map (λ i. suc i) o) (place_set x bs i b e)

pub named_kept : (x : List ℕ) (bs : List Binding) (i : ℕ) (b : Binding) (n : ℕ) → b.name ≡ (get_or bs i no_binding).name → (get_or bs i no_binding).name ≢ x → place_in bs x ≡ Some n →
    (place_in (set bs i b) x ≡ Some n) × (get_or (set bs i b) n no_binding ≡ get_or bs n no_binding)
named_kept x bs i b n e ne at = (
  place_set x bs i b e ∙ at,
  get_or-set_other bs i n b no_binding (λ z. ne (ap (λ m. (get_or bs m no_binding).name) (sym z) ∙ (bytes_eq-Decides _ x).0 (named_there x bs n at))),
)

moved : (o r : Option ℕ) (a : Option ℕ) → ((i : ℕ) → place r (suc i) ≡ suc (place o i)) → option_map (λ i. suc i) (option_map (place o) a) ≡ option_map (place r) (option_map (λ i. suc i) a)
moved o r None h = refl
moved o r (Some i) h = ap (λ n. Some n) (sym (h i))

after_own : (a : Option ℕ) → option_map (λ i. suc i) (option_map (place None) a) ≡ option_map (place (Some 0)) a
after_own None = refl
after_own (Some i) = refl

not_own : (name : ℕ → List ℕ) (h : Home) (x b : List ℕ) → IsOther name h x → IsOwn name h b → b ≢ x
not_own name (Outside part) x b o n e = absurd n
not_own name (Within file) x b o n e = o (sym e ∙ n)

module _ (name : ℕ → List ℕ) (w : World) (h : Home) where
  one_more : (x : List ℕ) (o r : Option ℕ) (a b : Binding) (xs ys : List Binding) → place r 0 ≡ 0 → ((i : ℕ) → place r (suc i) ≡ suc (place o i)) → a.name ≡ b.name →
      place_in ys x ≡ option_map (place o) (place_in xs x) → (t : Bool) → by x a ≡ t → place_in (b ∷ ys) x ≡ option_map (place r) (place_in (a ∷ xs) x)
  one_more x o r a b xs ys z s n e true t =
      found_first x b ys (ap (λ m. bytes_eq m x) (sym n) ∙ t) ∙ ap (λ i. Some i) (sym z) ∙ ap (option_map (place r)) (sym (found_first x a xs t))
  one_more x o r a b xs ys z s n e false t =
      found_later x b ys (ap (λ m. bytes_eq m x) (sym n) ∙ t) ∙ ap (option_map (λ i. suc i)) e ∙ moved o r (place_in xs x) s ∙ ap (option_map (place r)) (sym (found_later x a xs t))

  -- a name of the source stands at the same place, but for that of the file's own
  pub same_place : (x : List ℕ) → IsOther name h x → (o : Option ℕ) (xs ys : List Binding) → AlikeNames name w h o xs ys → place_in ys x ≡ option_map (place o) (place_in xs x)
  same_place x f _ _ _ no_names = refl
  same_place x f _ _ _ (more_names {x = a} {y = b} {xs = xs} {ys = ys} r t) = one_more x None None a b xs ys refl (λ i. refl) r.names (same_place x f _ _ _ t) (by x a) refl
  same_place x f _ _ _ (own_name {b = b} {xs = xs} {ys = ys} n t) =
      found_later x b ys (differs b.name x (not_own name h x b.name f n)) ∙ ap (option_map (λ i. suc i)) (same_place x f _ _ _ t) ∙ after_own (place_in xs x)
  same_place x f _ _ _ (names_before {n = n} {x = a} {y = b} {xs = xs} {ys = ys} r t) = one_more x (Some n) (Some (suc n)) a b xs ys refl (λ i. refl) r.names (same_place x f _ _ _ t) (by x a) refl

  -- what stands there
  pub at_place : (o : Option ℕ) (xs ys : List Binding) → AlikeNames name w h o xs ys → (i : ℕ) →
      AlikeBindings name w h (get_or xs i no_binding) (get_or ys (place o i) no_binding) ⊎ ((get_or xs i no_binding ≡ no_binding) × (get_or ys (place o i) no_binding ≡ no_binding))
  at_place _ _ _ no_names i = inr (refl, refl)
  at_place _ _ _ (more_names r t) zero = inl r
  at_place _ _ _ (more_names r t) (suc i) = at_place _ _ _ t i
  at_place _ _ _ (own_name n t) i = at_place _ _ _ t i
  at_place _ _ _ (names_before r t) zero = inl r
  at_place _ _ _ (names_before r t) (suc i) = at_place _ _ _ t i

  -- a change of both
  pub changed_at : (f g : Binding → Binding) → ((x y : Binding) → AlikeBindings name w h x y → AlikeBindings name w h (f x) (g y)) →
      (o : Option ℕ) (xs ys : List Binding) → AlikeNames name w h o xs ys → (i : ℕ) →
      AlikeNames name w h o (set xs i (f (get_or xs i no_binding))) (set ys (place o i) (g (get_or ys (place o i) no_binding)))
  changed_at f g k _ _ _ no_names i = no_names
  changed_at f g k _ _ _ (more_names r t) zero = more_names (k _ _ r) t
  changed_at f g k _ _ _ (more_names r t) (suc i) = more_names r (changed_at f g k _ _ _ t i)
  changed_at f g k _ _ _ (own_name n t) i = own_name n (changed_at f g k _ _ _ t i)
  changed_at f g k _ _ _ (names_before r t) zero = names_before (k _ _ r) t
  changed_at f g k _ _ _ (names_before r t) (suc i) = names_before r (changed_at f g k _ _ _ t i)

  -- one more at the end
  pub pushed : (o : Option ℕ) (xs ys : List Binding) (x y : Binding) → AlikeNames name w h o xs ys → AlikeBindings name w h x y → AlikeNames name w h o (xs ++ x ∷ []) (ys ++ y ∷ [])
  pushed _ _ _ x y no_names r = more_names r no_names
  pushed _ _ _ x y (more_names s t) r = more_names s (pushed _ _ _ x y t r)
  pushed _ _ _ x y (own_name n t) r = own_name n (pushed _ _ _ x y t r)
  pushed _ _ _ x y (names_before s t) r = names_before s (pushed _ _ _ x y t r)

  -- the file's own name is none of these places
  pub not_at_own : (n i : ℕ) → place (Some n) i ≢ n
  not_at_own zero i e = omega (arith, e)
  not_at_own (suc n) zero e = omega (arith, e)
  not_at_own (suc n) (suc i) e = not_at_own n i (omega (arith, e))

  pub own_at : (n : ℕ) (xs ys : List Binding) → AlikeNames name w h (Some n) xs ys → IsOwn name h (get_or ys n no_binding).name × (n < length ys)
  own_at _ _ _ (own_name n t) = (n, omega arith)
  own_at _ _ _ (names_before r t) = let a = own_at _ _ _ t in (a.0, omega (arith, a.1))

  -- Assignment

  pub assigned_alike : (v u : Value) → Related (Paired w.objects) v u → (x y : Binding) → AlikeBindings name w h x y →
      AlikeBindings name w h (assigned (assign_to x) v x) (assigned (assign_to y) u y)
  assigned_alike v u r x y a = by_value x.value y.value refl refl a.contents
    where
      by_constant : (b : Bool) → x.constant ≡ b → (m n : Value) → x.value ≡ Some m → y.value ≡ Some n →
          AlikeBindings name w h (assigned (assign_to x) v x) (assigned (assign_to y) u y)
      by_constant true e m n f g =
          let ex : assign_to x ≡ Environments.Constant = grind (arith, e, f) in
          let ey : assign_to y ≡ Environments.Constant = grind (arith, e, g, a.constants) in
          subst (λ z. AlikeBindings name w h (assigned z v x) (assigned (assign_to y) u y)) (sym ex)
          (subst (λ z. AlikeBindings name w h x (assigned z u y)) (sym ey) a)
      by_constant false e m n f g =
          let ex : assign_to x ≡ Environments.Done = grind (arith, e, f) in
          let ey : assign_to y ≡ Environments.Done = grind (arith, e, g, a.constants) in
          subst (λ z. AlikeBindings name w h (assigned z v x) (assigned (assign_to y) u y)) (sym ex)
          (subst (λ z. AlikeBindings name w h (record x { value = Some v }) (assigned z u y)) (sym ey)
          (record { names = a.names; other = a.other; contents = held (both v u r); constants = a.constants }))

      dead : x.value ≡ None → y.value ≡ None → AlikeBindings name w h (assigned (assign_to x) v x) (assigned (assign_to y) u y)
      dead f g =
          let ex : assign_to x ≡ Environments.Dead = grind (arith, f) in
          let ey : assign_to y ≡ Environments.Dead = grind (arith, g) in
          subst (λ z. AlikeBindings name w h (assigned z v x) (assigned (assign_to y) u y)) (sym ex)
          (subst (λ z. AlikeBindings name w h x (assigned z u y)) (sym ey) a)

      by_value : (m n : Option Value) → x.value ≡ m → y.value ≡ n → AlikeContents w x.name m n →
          AlikeBindings name w h (assigned (assign_to x) v x) (assigned (assign_to y) u y)
      by_value _ _ f g (held neither) = dead f g
      by_value _ _ f g (held (both m n s)) = by_constant x.constant refl m n f g
      by_value None _ f g (global_this e) = dead f g
      by_value (Some m) _ f g (global_this e) = by_constant x.constant refl m m f g

  pub answer_alike : (x y : Binding) → AlikeBindings name w h x y → assign_to x ≡ assign_to y
  answer_alike x y a = by_value x.value y.value refl refl a.contents
    where
      by_value : (m n : Option Value) → x.value ≡ m → y.value ≡ n → AlikeContents w x.name m n → assign_to x ≡ assign_to y
      by_value _ _ f g (held neither) = grind (arith, f, g)
      by_value _ _ f g (held (both m n s)) = grind (arith, f, g, a.constants)
      by_value None _ f g (global_this e) = grind (arith, f, g)
      by_value (Some m) _ f g (global_this e) = grind (arith, f, g, a.constants)

  pub contents_of : (x y : Binding) → AlikeBindings name w h x y → x.name ≢ codes "globalThis" → InBoth (Related (Paired w.objects)) x.value y.value
  contents_of x y a ne = go x.value y.value a.contents
    where
      go : (m n : Option Value) → AlikeContents w x.name m n → InBoth (Related (Paired w.objects)) m n
      go _ _ (held r) = r
      go _ _ (global_this e) = absurd (ne e)
