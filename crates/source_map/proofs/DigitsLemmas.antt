-- The digits of a number.
use Rattle.std.proofs.Common.{◌≡◌, ℕ, zero, suc, ◌+◌, ◌-◌, ◌/◌, ◌%◌, ◌<◌, ◌≤◌, cond, [], ◌∷◌, refl, sym, subst, ap, ◌∙◌, arith}
use Rattle.std.proofs.lemmas.Bool.{lt-ltb, le-ltb}
use Rattle.source_map.specs.Vlq.{digits_from}
use Rattle.source_map.specs.private.Digits.{most_of}

pub digits_short : (more number : ℕ) → number < 32 → digits_from more number ≡ number ∷ []
digits_short zero number h = refl
digits_short (suc more) number h = ap (λ b. cond b (number ∷ []) ((32 + number % 32) ∷ digits_from more (number / 32))) (lt-ltb number 32 h)

same-digits : (more : ℕ) → suc more - 1 ≡ more
same-digits more = omega arith

pub digits_long : (more number : ℕ) → 32 ≤ number → number < most_of more → digits_from more number ≡ (32 + number % 32) ∷ digits_from (more - 1) (number / 32)
digits_long zero number h few = absurd (omega arith)
digits_long (suc more) number h few =
    ap (λ b. cond b (number ∷ []) ((32 + number % 32) ∷ digits_from more (number / 32))) (le-ltb number 32 h)
    ∙ ap (λ n. (32 + number % 32) ∷ digits_from n (number / 32)) (sym (same-digits more))

pub more_digits : (more number : ℕ) → 32 ≤ number → number < most_of more → (0 < more) × (number / 32 < most_of (more - 1))
more_digits zero number h few = absurd (omega arith)
more_digits (suc more) number h few =
    (omega arith, subst (λ n. number / 32 < most_of n) (sym (same-digits more)) (omega arith))
