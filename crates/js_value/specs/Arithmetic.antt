-- The arithmetic of numbers (ECMA-262, 6.1.6.1), exact: each function gives the number of mathematics, where that is whole.
use Rattle.std.specs.Prelude.{◌==◌, suc, Bool, ℤ, pos, negsuc, ◌+ℤ◌, ◌-ℤ◌, ◌*ℤ◌, int_div, int_rem, unsigned_abs, Option, Some, None, if◌then◌else◌}
use Rattle.std.specs.Int.{int_pow}

-- whether a number is 0
abbrev pub is_zero : ℤ → Bool
is_zero n = unsigned_abs n == 0

-- the power (6.1.6.1.3): of a base other than 1 and -1, a power with a negative exponent is a fraction, or none at all
abbrev pub power : ℤ → ℤ → Option ℤ
power base (pos e) = Some (int_pow base e)
power base (negsuc e) = if unsigned_abs base == 1 then Some (int_pow base (suc e)) else None

-- the product (6.1.6.1.4)
abbrev pub product : ℤ → ℤ → Option ℤ
product m n = Some (m *ℤ n)

-- the quotient (6.1.6.1.5), where the divisor is not 0 and nothing is left over
abbrev pub quotient : ℤ → ℤ → Option ℤ
quotient m n = if is_zero n then None else if is_zero (int_rem m n) then Some (int_div m n) else None

-- the remainder (6.1.6.1.6), which has the dividend's sign; there is none where the divisor is 0
abbrev pub remainder : ℤ → ℤ → Option ℤ
remainder m n = if is_zero n then None else Some (int_rem m n)

-- the sum (6.1.6.1.7)
abbrev pub sum : ℤ → ℤ → Option ℤ
sum m n = Some (m +ℤ n)

-- the difference (6.1.6.1.8)
abbrev pub difference : ℤ → ℤ → Option ℤ
difference m n = Some (m -ℤ n)
