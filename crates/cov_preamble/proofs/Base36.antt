-- The digits of a number.
use Rattle.std.proofs.Common.{◌≡◌, ℕ, zero, suc, ◌+◌, ◌-◌, ◌*◌, ◌/◌, ◌%◌, ◌<◌, ◌≤◌, cond, List, [], ◌∷◌, ◌++◌, length, get_or, refl, sym, ap, ◌∙◌, arith}
use Rattle.std.proofs.lemmas.Bool.{lt-ltb, le-ltb}
use Rattle.cov_preamble.specs.Digits.{three}
use Rattle.cov_preamble.specs.Name.{digit, digits_of, number_of}

pub digits_short : (more number : ℕ) → number < 36 → digits_of more number ≡ digit (number % 36) ∷ []
digits_short zero number h = refl
digits_short (suc more) number h = ap (λ b. cond b [] (digits_of more (number / 36)) ++ digit (number % 36) ∷ []) (lt-ltb number 36 h)

same-digits : (more : ℕ) → suc more - 1 ≡ more
same-digits more = omega arith

pub digits_long : (more number : ℕ) → 0 < more → 36 ≤ number → digits_of more number ≡ digits_of (more - 1) (number / 36) ++ digit (number % 36) ∷ []
digits_long zero number some h = absurd (omega arith)
digits_long (suc more) number some h =
    ap (λ b. cond b [] (digits_of more (number / 36)) ++ digit (number % 36) ∷ []) (le-ltb number 36 h)
    ∙ ap (λ n. digits_of n (number / 36) ++ digit (number % 36) ∷ []) (sym (same-digits more))

-- six bytes are twice three
pub six_bytes : (bytes : List ℕ) → 6 ≤ length bytes →
    three (get_or bytes 0 0) (get_or bytes 1 0) (get_or bytes 2 0) * 0x1000000 + three (get_or bytes 3 0) (get_or bytes 4 0) (get_or bytes 5 0) ≡ number_of bytes
six_bytes (a ∷ b ∷ c ∷ d ∷ e ∷ f ∷ bytes) h = omega arith
six_bytes [] h = absurd (omega (arith, h))
six_bytes (a ∷ []) h = absurd (omega (arith, h))
six_bytes (a ∷ b ∷ []) h = absurd (omega (arith, h))
six_bytes (a ∷ b ∷ c ∷ []) h = absurd (omega (arith, h))
six_bytes (a ∷ b ∷ c ∷ d ∷ []) h = absurd (omega (arith, h))
six_bytes (a ∷ b ∷ c ∷ d ∷ e ∷ []) h = absurd (omega (arith, h))
