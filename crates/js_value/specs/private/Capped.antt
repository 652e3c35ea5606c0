-- Numbers of 64 bits that stop at the greatest.
use Rattle.std.specs.Prelude.{◌≡◌, ℕ, ◌-◌, ◌^◌, min, ℤ, Option, Some}
use Rattle.js_value.specs.Numbers.{with_sign}
use Rattle.js_value.specs.declared.text_number.Exponent.{Exponent}

-- the number, or 2^64 - 1 where it is greater
abbrev pub capped : ℕ → ℕ
capped n = min n (2 ^ 64 - 1)

-- what was read is this exponent, but that the magnitude is capped
abbrev pub IsCapped : Option ℤ → Exponent → Type 0
IsCapped read exponent = (size : ℕ) × (capped size ≡ exponent.size) × (read ≡ Some (with_sign exponent.negative size))
