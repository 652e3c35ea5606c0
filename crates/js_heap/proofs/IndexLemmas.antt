-- Keys of which none is an index.
use Rattle.std.proofs.Common.{◌≡◌, ℕ, suc, Option, Some, option_map, Bool, true, false, not, ◌||◌, List, [], ◌∷◌, ◌++◌, length, filter, cond, None, is_some, refl, sym, ap, ◌∙◌, position}
use Rattle.std.specs.Str.{bytes_eq}
use Rattle.std.proofs.lemmas.Slice.Eq.{bytes_eq-Decides}
use Rattle.std.proofs.lemmas.Bool.{true≢false}
use Rattle.js_value.specs.Key.{index_of}
use Rattle.js_heap.specs.private.Bindings.{or_place}
use Rattle.js_heap.specs.private.Keys.{NoIndices}
use Rattle.js_heap.proofs.NameLemmas.{position-push, position-first, position-later}

pub NoIndices-none : NoIndices []
NoIndices-none key is = refl

-- one more that is none
pub NoIndices-push : (keys : List (List ℕ)) (key : List ℕ) → NoIndices keys → is_some (index_of key) ≡ false → NoIndices (keys ++ key ∷ [])
NoIndices-push keys key none isnt q is =
    let other : (b : Bool) → bytes_eq key q ≡ b → or_place None b (length keys) ≡ None = λ b. elim b as (λ b. bytes_eq key q ≡ b → or_place None b (length keys) ≡ None) [
      | false ↦ λ _. refl
      | true ↦ λ same. absurd (true≢false (sym is ∙ ap (λ k. is_some (index_of k)) (sym ((bytes_eq-Decides key q).0 same)) ∙ isnt))
    ] in
    position-push (λ k. bytes_eq k q) keys key ∙ ap (λ p. or_place p (bytes_eq key q) (length keys)) (none q is) ∙ other (bytes_eq key q) refl

pub not_both : {A : Type 0} (o : Option A) (a : A) → o ≡ Some a → o ≡ None → ⊥
not_both o a e f = cc

none_later : (o : Option ℕ) → option_map suc o ≡ None → o ≡ None
none_later None e = refl
none_later (Some n) e = absurd cc

-- what is nowhere is nowhere among some
nowhere : {X : Type 0} (p q : X → Bool) (xs : List X) → position p xs ≡ None → position p (filter q xs) ≡ None
nowhere p q [] none = none
nowhere {X} p q (x ∷ xs) none =
    let here : p x ≡ false = elim (p x) as (λ b. p x ≡ b → b ≡ false) [ false ↦ λ _. refl | true ↦ λ is. absurd (not_both (position p (x ∷ xs)) 0 (position-first p x xs is) none) ] refl in
    let rest : position p (filter q xs) ≡ None = nowhere p q xs (none_later (position p xs) (sym (position-later p x xs here) ∙ none)) in
    elim (q x) as (λ b. position p (cond b (x ∷ filter q xs) (filter q xs)) ≡ None) [ true ↦ position-later p x (filter q xs) here ∙ ap (option_map suc) rest | false ↦ rest ]

pub NoIndices-filter : (q : List ℕ → Bool) (keys : List (List ℕ)) → NoIndices keys → NoIndices (filter q keys)
NoIndices-filter q keys none key is = nowhere (λ k. bytes_eq k key) q keys (none key is)

-- where neither holds
pub neither : (a b : Bool) → (a || b) ≡ false → (a ≡ false) × (b ≡ false)
neither false false e = (refl, refl)
neither false true e = absurd cc
neither true b e = absurd cc
