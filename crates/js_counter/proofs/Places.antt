-- Where a name stands among bindings.
use Rattle.std.proofs.Common.{◌≡◌, ℕ, suc, ◌<◌, Bool, true, false, List, [], ◌∷◌, length, Option, Some, None, refl, ap, subst, arith, if◌then◌else◌}
use Rattle.std.specs.Prelude.{slice_index_or, option_map}
use Rattle.std.specs.Str.{bytes_eq}
use Rattle.js_value.specs.State.{Binding}
use Rattle.js_value.specs.Environments.{no_binding, place_in}

pub place_later : (name : List ℕ) (b : Binding) (bs : List Binding) → bytes_eq b.name name ≡ false → place_in (b ∷ bs) name ≡ option_map suc (place_in bs name)
place_later name b bs other = ap (λ t. if t then Some 0 else option_map suc (place_in bs name)) other

pub place_first : (name : List ℕ) (b : Binding) (bs : List Binding) → bytes_eq b.name name ≡ true → place_in (b ∷ bs) name ≡ Some 0
place_first name b bs same = ap (λ t. if t then Some 0 else option_map suc (place_in bs name)) same

-- what stands at a name's place has it
pub record Named (name : List ℕ) (bs : List Binding) (i : ℕ) : Type 0 where
  pub low : i < length bs
  pub has : bytes_eq (slice_index_or bs i no_binding).name name ≡ true

inj : {X : Type 0} {x y : X} → Some x ≡ Some y → x ≡ y
inj e = cc

pub place_named : (name : List ℕ) (bs : List Binding) (i : ℕ) → place_in bs name ≡ Some i → Named name bs i
place_named name [] i e = cc
place_named name (b ∷ bs) i e = by (bytes_eq b.name name) refl e (place_named name bs)
  where
    after : (place : Option ℕ) → place_in bs name ≡ place → option_map suc place ≡ Some i → ((j : ℕ) → place_in bs name ≡ Some j → Named name bs j) → Named name (b ∷ bs) i
    after None f g rest = cc
    after (Some j) f g rest = let n = rest j f in let l = n.low in
        subst (λ k. Named name (b ∷ bs) k) (inj g) (record { low = omega (arith, l); has = n.has })

    by : (t : Bool) → bytes_eq b.name name ≡ t → (if t then Some 0 else option_map suc (place_in bs name)) ≡ Some i → ((j : ℕ) → place_in bs name ≡ Some j → Named name bs j) → Named name (b ∷ bs) i
    by true f g rest = subst (λ k. Named name (b ∷ bs) k) (inj g) (record { low = omega arith; has = f })
    by false f g rest = after (place_in bs name) refl g rest
