-- Digits that are worth too much for an index.
use Rattle.std.proofs.Common.{◌≡◌, ℕ, ◌+◌, ◌*◌, ◌-◌, ◌^◌, ◌≤◌, false, List, [], ◌∷◌, Some, None, nat_lt, refl, ap, ◌∙◌, arith}
use Rattle.std.proofs.lemmas.Bool.Decides.{nat_tests}
use Rattle.js_value.specs.Key.{digit_of, digits_after, if_index}

-- whatever digits follow
pub too_great : (before : ℕ) (units : List ℕ) → 2 ^ 32 - 1 ≤ before → if_index (digits_after before units) ≡ None
too_great before [] h =
    let t : nat_lt before (2 ^ 32 - 1) ≡ false = grind (arith, nat_tests) in
    rw t refl
too_great before (u ∷ us) h = elim (digit_of u) as (λ d. if_index (elim d [ None ↦ None | Some digit ↦ digits_after (before * 10 + digit) us ]) ≡ None) [
  | None ↦ refl
  | Some digit ↦ too_great (before * 10 + digit) us (omega arith)
]

-- one digit more
pub one_digit : (before u digit : ℕ) (us : List ℕ) → digit_of u ≡ Some digit → 2 ^ 32 - 1 ≤ before * 10 + digit → if_index (digits_after before (u ∷ us)) ≡ None
one_digit before u digit us d h =
    ap (λ t. if_index (elim t [ None ↦ None | Some digit ↦ digits_after (before * 10 + digit) us ])) d ∙ too_great (before * 10 + digit) us h
