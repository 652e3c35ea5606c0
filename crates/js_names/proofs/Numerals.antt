-- Short texts by their numbers.
use Rattle.std.proofs.Common.{◌≡◌, ℕ, zero, suc, ◌+◌, ◌-◌, ◌*◌, ◌^◌, ◌<◌, ◌≤◌, Bool, true, false, if◌then◌else◌, nat_le, fold, List, [], ◌∷◌, length, get_or, drop, drop-cons, refl, sym, ap, ◌∙◌, subst, arith}
use Rattle.std.proofs.lemmas.List.{get_or-drop, length-drop}
use Rattle.std.proofs.lemmas.Bool.Decides.{nat_tests}
use Rattle.js_names.specs.Name.{numeral, number_of, with_byte, AreBytes}

first_byte : (x : ℕ) (xs : List ℕ) → AreBytes (x ∷ xs) → x < 256
first_byte x xs h = h 0

other_bytes : (x : ℕ) (xs : List ℕ) → AreBytes (x ∷ xs) → AreBytes xs
other_bytes x xs h = λ i. h (suc i)

-- bytes are the digits of their number
pub same_numeral : (xs ys : List ℕ) → AreBytes xs → AreBytes ys → numeral xs ≡ numeral ys → xs ≡ ys
same_numeral [] [] hx hy same = refl
same_numeral [] (y ∷ ys) hx hy same = absurd (omega (arith, same))
same_numeral (x ∷ xs) [] hx hy same = absurd (omega (arith, same))
same_numeral (x ∷ xs) (y ∷ ys) hx hy same =
    let first : x ≡ y = omega (arith, same, first_byte x xs hx, first_byte y ys hy) in
    let rest : numeral xs ≡ numeral ys = omega (arith, same, first_byte x xs hx, first_byte y ys hy) in
    ap (λ b. b ∷ xs) first ∙ ap (λ bs. y ∷ bs) (same_numeral xs ys (other_bytes x xs hx) (other_bytes y ys hy) rest)

-- the greatest number of so many bytes
abbrev greatest : ℕ → ℕ
greatest zero = 0
greatest (suc n) = greatest n * 257 + 256

at_most : (xs : List ℕ) → AreBytes xs → numeral xs ≤ greatest (length xs)
at_most [] h = omega arith
at_most (x ∷ xs) h = omega (arith, first_byte x xs h, at_most xs (other_bytes x xs h))

small : (n : ℕ) → n ≤ 6 → greatest n * 257 + 256 < 2 ^ 63
small zero h = omega arith
small (suc zero) h = omega arith
small (suc (suc zero)) h = omega arith
small (suc (suc (suc zero))) h = omega arith
small (suc (suc (suc (suc zero)))) h = omega arith
small (suc (suc (suc (suc (suc zero))))) h = omega arith
small (suc (suc (suc (suc (suc (suc zero)))))) h = omega arith
small (suc (suc (suc (suc (suc (suc (suc n))))))) h = absurd (omega arith)

-- one byte more before at most six is in range
pub in_range : (xs : List ℕ) (b : ℕ) → AreBytes xs → length xs ≤ 6 → b < 256 → numeral xs * 257 + (b + 1) < 2 ^ 63
in_range xs b h short byte = omega (arith, at_most xs h, small (length xs) short)

pub below : (xs : List ℕ) → AreBytes xs → length xs ≤ 7 → numeral xs < 2 ^ 63
below [] h short = omega arith
below (x ∷ xs) h short = in_range xs x (other_bytes x xs h) (omega arith) (first_byte x xs h)

dropped : (n : ℕ) (bs : List ℕ) → AreBytes bs → AreBytes (drop n bs)
dropped n bs h i = subst (λ x. x < 256) (sym (get_or-drop n bs i 0)) (h (n + i))

-- from the last byte to the first, a byte before those that are behind it
module _ (bs : List ℕ) (bytes : AreBytes bs) (short : length bs ≤ 7) (i : ℕ) (some : 0 < i) (within : i ≤ length bs) where
  pub behind_range : (b : ℕ) → b < 256 → numeral (drop i bs) * 257 + (b + 1) < 2 ^ 63
  behind_range b byte = in_range (drop i bs) b (dropped i bs bytes) (omega (arith, length-drop i bs, short, some, within)) byte

  pub one_before : numeral (drop i bs) * 257 + (get_or bs (i - 1) 0 + 1) ≡ numeral (drop (i - 1) bs)
  one_before =
      let next : suc (i - 1) ≡ i = omega (arith, some) in
      let there : i - 1 < length bs = omega (arith, some, within) in
      ap (λ j. numeral (drop j bs) * 257 + (get_or bs (i - 1) 0 + 1)) (sym next) ∙ ap numeral (sym (drop-cons bs (i - 1) 0 there))

-- a number below 2^63 is that of a short text
short_of : (bs : List ℕ) → number_of bs < 2 ^ 63 → nat_le (length bs) 7 ≡ true
short_of bs low =
    elim (nat_le (length bs) 7) as (λ short. (if short then numeral bs else 2 ^ 63 + fold with_byte 0 bs) < 2 ^ 63 → short ≡ true) [
      | true ↦ λ _. refl
      | false ↦ λ high. absurd (omega (arith, high))
    ] low

numeral_of : (bs : List ℕ) → nat_le (length bs) 7 ≡ true → number_of bs ≡ numeral bs
numeral_of bs short = ap (λ b. if b then numeral bs else 2 ^ 63 + fold with_byte 0 bs) short

-- and of no other
pub same_number : (xs ys : List ℕ) → (length xs ≤ 7 → AreBytes xs) → (length ys ≤ 7 → AreBytes ys) → number_of xs ≡ number_of ys → number_of xs < 2 ^ 63 → xs ≡ ys
same_number xs ys hx hy same low =
    let short : nat_le (length xs) 7 ≡ true = short_of xs low in
    let other : nat_le (length ys) 7 ≡ true = short_of ys (subst (λ n. n < 2 ^ 63) same low) in
    same_numeral xs ys (hx (grind (arith, nat_tests, short))) (hy (grind (arith, nat_tests, other))) (sym (numeral_of xs short) ∙ same ∙ numeral_of ys other)
