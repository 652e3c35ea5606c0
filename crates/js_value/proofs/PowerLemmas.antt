-- Numbers past the range, and powers of small bases.
use Rattle.std.proofs.Common.{◌≡◌, ℕ, zero, suc, ◌^◌, ◌%◌, ◌<◌, ◌≤◌, ◌==◌, Bool, true, false, cond, ℤ, pos, negsuc, neg_ℤ, Some, None, option_and_then, inl, inr, refl, ap, sym, ◌∙◌, arith, lit<}
use Rattle.std.proofs.Math.Nat.{pow-zero, pow-suc, pow-le-pow_left, pow-le-pow_right}
use Rattle.std.proofs.lemmas.Bool.{cases_lt, le-ltb, lt-ltb, ltb-true, ne_eqb, false≢true}
use Rattle.std.proofs.lemmas.Int.{fits_signed_from_abs}
use Rattle.std.specs.Int.{int_pow, w64}
use Rattle.std.specs.Prelude.{FitsSigned, unsigned_abs, int_lt}
use Rattle.js_value.specs.Numbers.{ranged}
use Rattle.js_value.specs.Arithmetic.{power}

pub not_ranged : (z : ℤ) → 2 ^ 53 ≤ unsigned_abs z → ranged z ≡ None
not_ranged z h = rw (le-ltb (unsigned_abs z) (2 ^ 53) h) refl

-- what does not fit 64 bits is out of range
pub not_fits : (z : ℤ) → ¬ (FitsSigned w64 z) → ranged z ≡ None
not_fits z h = elim (cases_lt (unsigned_abs z) (2 ^ 53)) [
  | inl lt ↦ absurd (h (fits_signed_from_abs w64 z (omega (arith, lt))))
  | inr le ↦ not_ranged z le
]

pub one_pow : (e : ℕ) → 1 ^ e ≡ 1
one_pow zero = refl
one_pow (suc e) = pow-suc 1 e ∙ let h = one_pow e in omega (arith, h)

pub zero_pow : (e : ℕ) → 0 < e → 0 ^ e ≡ 0
zero_pow zero h = absurd (omega (arith, h))
zero_pow (suc e) h = pow-suc 0 e ∙ omega arith

abs-neg : (n : ℕ) → unsigned_abs (neg_ℤ (pos n)) ≡ n
abs-neg zero = refl
abs-neg (suc n) = refl

abs_by : (b : Bool) (n : ℕ) → unsigned_abs (cond b (pos n) (neg_ℤ (pos n))) ≡ n
abs_by true n = refl
abs_by false n = abs-neg n

pub abs-pow : (base : ℤ) (e : ℕ) → unsigned_abs (int_pow base e) ≡ unsigned_abs base ^ e
abs-pow (pos a) e = refl
abs-pow (negsuc a) e = abs_by (e % 2 == 0) (suc a ^ e)

-- from 2 on, powers from the 53rd on are out of range
pub power_past : (base : ℤ) (e : ℕ) → 2 ≤ unsigned_abs base → 53 ≤ e → ranged (int_pow base e) ≡ None
power_past base e two past =
    let doubled : 2 ^ e ≤ unsigned_abs base ^ e = pow-le-pow_left two e in
    let from : 2 ^ 53 ≤ 2 ^ e = pow-le-pow_right (lit< tt) past in
    not_ranged (int_pow base e) (rw (abs-pow base e) (omega (arith, doubled, from)))

-- the powers of -1, 0 and 1
pub power_first : (base : ℤ) → pos 1 ≡ int_pow base 0
power_first (pos a) = ap pos (sym (pow-zero a))
power_first (negsuc a) = ap pos (sym (pow-zero (suc a)))

small_natural : (a e : ℕ) → a < 2 → 0 < e → a ^ e ≡ a
small_natural zero e small some = zero_pow e some
small_natural (suc zero) e small some = one_pow e
small_natural (suc (suc a)) e small some = absurd (omega (arith, small))

pub small_positive : (base : ℤ) (e : ℕ) → unsigned_abs base < 2 → 0 < e → int_lt base (pos 0) ≡ false → base ≡ int_pow base e
small_positive (pos a) e small some natural = ap pos (sym (small_natural a e small some))
small_positive (negsuc a) e small some natural = absurd (false≢true (sym natural))

pub small_even : (base : ℤ) (e : ℕ) → unsigned_abs base < 2 → int_lt base (pos 0) ≡ true → (e % 2 == 0) ≡ true → pos 1 ≡ int_pow base e
small_even (pos a) e small negative even = absurd (omega (arith, ltb-true a 0 negative))
small_even (negsuc zero) e small negative even = rw (even, one_pow e) refl
small_even (negsuc (suc a)) e small negative even = absurd (omega (arith, small))

pub small_odd : (base : ℤ) (e : ℕ) → unsigned_abs base < 2 → int_lt base (pos 0) ≡ true → (e % 2 == 0) ≡ false → negsuc 0 ≡ int_pow base e
small_odd (pos a) e small negative odd = absurd (omega (arith, ltb-true a 0 negative))
small_odd (negsuc zero) e small negative odd = rw (odd, one_pow e) refl
small_odd (negsuc (suc a)) e small negative odd = absurd (omega (arith, small))

one_size : (n e : ℕ) → n < 2 → n ^ e < 2
one_size zero zero h = lit< tt
one_size zero (suc e) h = let z = zero_pow (suc e) (omega arith) in omega (arith, z)
one_size (suc zero) e h = let o = one_pow e in omega (arith, o)
one_size (suc (suc n)) e h = absurd (omega (arith, h))

pub small_ranged : (base : ℤ) (e : ℕ) → unsigned_abs base < 2 → Some (int_pow base e) ≡ ranged (int_pow base e)
small_ranged base e small =
    let size : unsigned_abs (int_pow base e) < 2 = rw (abs-pow base e) (one_size (unsigned_abs base) e small) in
    rw (lt-ltb (unsigned_abs (int_pow base e)) (2 ^ 53) (omega (arith, size))) refl

-- which exponents give a number
pub natural_exponent : (base exponent : ℤ) → int_lt exponent (pos 0) ≡ false → ranged (int_pow base (unsigned_abs exponent)) ≡ option_and_then ranged (power base exponent)
natural_exponent base (pos e) natural = refl
natural_exponent base (negsuc e) natural = absurd (false≢true (sym natural))

pub negative_exponent : (base exponent : ℤ) → int_lt exponent (pos 0) ≡ true → unsigned_abs base ≡ 1 → ranged (int_pow base (unsigned_abs exponent)) ≡ option_and_then ranged (power base exponent)
negative_exponent base (pos e) negative one = absurd (omega (arith, ltb-true e 0 negative))
negative_exponent base (negsuc e) negative one = rw one refl

pub no_exponent : (base exponent : ℤ) → int_lt exponent (pos 0) ≡ true → (unsigned_abs base ≡ 1 → ⊥) → None ≡ option_and_then ranged (power base exponent)
no_exponent base (pos e) negative other = absurd (omega (arith, ltb-true e 0 negative))
no_exponent base (negsuc e) negative other = rw (ne_eqb (unsigned_abs base) 1 other) refl
