-- Numeric literals (ECMA-262, 12.9.3).
use Rattle.std.specs.Prelude.{ℕ, ◌==◌, Bool, true, false, not, ◌&&◌, ◌||◌, List, [], ◌∷◌, drop, Option, Some, None, if◌then◌else◌}
use Rattle.std.specs.Char as char
use Rattle.js_text.specs.Character.{begins_with_digit, begins_with_character}
use Rattle.js_text.specs.Identifier.{begins_identifier}

-- a digit of this base
abbrev pub is_digit_of : ℕ → ℕ → Bool
is_digit_of base c = char.is_digit c base

-- a digit of this base stands here
abbrev pub begins_with_digit_of : ℕ → List ℕ → Bool
begins_with_digit_of base [] = false
begins_with_digit_of base (c ∷ cs) = is_digit_of base c

-- what follows the digits that go on after one, with a `_` between two of them
abbrev pub more_digits : ℕ → List ℕ → List ℕ
more_digits base [] = []
more_digits base (c ∷ cs) =
    if is_digit_of base c then more_digits base cs
    else (if (c == 0x5F) && begins_with_digit_of base cs then more_digits base cs else c ∷ cs)

-- what follows the digits that stand here, if there are any
abbrev pub digits_rest : ℕ → List ℕ → List ℕ
digits_rest base cs = if begins_with_digit_of base cs then more_digits base cs else cs

-- the base that the unit after a `0` says: `x`, `o` or `b` in either case
abbrev pub base_of : ℕ → Option ℕ
base_of c =
    if (c == 0x78) || (c == 0x58) then Some 16
    else (if (c == 0x6F) || (c == 0x4F) then Some 8
    else (if (c == 0x62) || (c == 0x42) then Some 2 else None))

-- what follows the digits of the base that the character here says, after a `0`; one at least
abbrev pub based_digits : Option ℕ → List ℕ → Option (List ℕ)
based_digits None cs = None
based_digits (Some base) cs = if begins_with_digit_of base cs then Some (more_digits base cs) else None

abbrev pub based_rest : List ℕ → Option (List ℕ)
based_rest [] = None
based_rest (c ∷ cs) = based_digits (base_of c) cs

-- what follows a fraction, if one stands here: `.`, and digits perhaps
abbrev pub fraction_rest : List ℕ → List ℕ
fraction_rest [] = []
fraction_rest (c ∷ cs) = if c == 0x2E then digits_rest 10 cs else c ∷ cs

-- what follows a sign, if one stands here
abbrev pub after_sign : List ℕ → List ℕ
after_sign [] = []
after_sign (c ∷ cs) = if (c == 0x2B) || (c == 0x2D) then cs else c ∷ cs

-- what follows an exponent, if one stands here
abbrev pub exponent_rest : List ℕ → List ℕ
exponent_rest [] = []
exponent_rest (c ∷ cs) =
    if ((c == 0x65) || (c == 0x45)) && begins_with_digit_of 10 (after_sign cs) then more_digits 10 (after_sign cs) else c ∷ cs

-- a number may end before these characters: no identifier starts there, and no digit
abbrev pub ends_number : List ℕ → Bool
ends_number cs = not (begins_identifier cs || begins_with_digit cs)

-- whether it is a BigInt, and what follows a number that may end there
abbrev pub ended : Bool → List ℕ → Option (Bool × List ℕ)
ended big rest = if ends_number rest then Some (big, rest) else None

-- the same of a number without fraction and exponent: it may be a BigInt
abbrev pub whole_number : List ℕ → List ℕ → Option (Bool × List ℕ)
whole_number rest decimal = if begins_with_character 0x6E rest then ended true (drop 1 rest) else ended false decimal

-- of a decimal number whose digits before the fraction were passed
abbrev pub decimal_number : List ℕ → Option (Bool × List ℕ)
decimal_number rest = whole_number rest (exponent_rest (fraction_rest rest))

-- of a number after its `0`
abbrev pub after_zero : Option (List ℕ) → List ℕ → Option (Bool × List ℕ)
after_zero None cs = decimal_number cs
after_zero (Some rest) cs = whole_number rest rest

-- whether the number here is a BigInt, and what follows it, after its first character: a digit, or a `.` before one
abbrev pub number_rest : ℕ → List ℕ → Option (Bool × List ℕ)
number_rest c cs =
    if c == 0x2E then ended false (exponent_rest (digits_rest 10 cs))
    else (if c == 0x30 then after_zero (based_rest cs) cs else decimal_number (more_digits 10 cs))
