-- Things that are numbered from 0.
use Rattle.std.proofs.Common.{◌≡◌, ℕ, suc, ◌+◌, ◌<◌, List, [], ◌∷◌, ◌++◌, length, map, sym, ap, ◌∙◌, add-zero, arith}
use Rattle.std.specs.Ordering.{nat_cmp}
use Rattle.std.specs.Cmp.{nat_cmp_is}
use Rattle.std.specs.declared.cmp.Ordering.TheVariants.{Less}
use Rattle.std.specs.List.{AllByRecursion, enumerate_from}
use Rattle.std.specs.List.Sorted.{IsStrictlySortedBy}
use Rattle.cov_object.specs.Numbered.{Ascends}

next_place : (n k : ℕ) → n + 1 + k ≡ n + suc k
next_place n k = omega arith

module _ {T : Type 0} where
  above : (n m : ℕ) (things : List T) → n < m → AllByRecursion (λ id. nat_cmp n id ≡ Less) (map (λ thing. thing.0) (enumerate_from m things))
  above n m [] h = tt
  above n m (thing ∷ things) h = (sym (nat_cmp_is n m Less h), above n (m + 1) things (omega arith))

  pub ascends-from : (n : ℕ) (things : List T) → Ascends (enumerate_from n things)
  unfolding IsStrictlySortedBy
  ascends-from n [] = tt
  ascends-from n (thing ∷ things) = (above n (n + 1) things (omega arith), ascends-from (n + 1) things)

  -- one more thing has the next number
  pub enumerate-more : (n : ℕ) (things : List T) (thing : T) → enumerate_from n (things ++ thing ∷ []) ≡ enumerate_from n things ++ (n + length things, thing) ∷ []
  enumerate-more n [] thing = ap (λ m. (m, thing) ∷ []) (sym (add-zero n))
  enumerate-more n (other ∷ things) thing =
      ap (λ rest. (n, other) ∷ rest) (enumerate-more (n + 1) things thing)
      ∙ ap (λ m. (n, other) ∷ (enumerate_from (n + 1) things ++ (m, thing) ∷ [])) (next_place n (length things))

pub ascends-none : (T : Type 0) → Ascends {T = T} []
unfolding IsStrictlySortedBy
ascends-none T = tt
