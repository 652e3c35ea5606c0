-- Numbers as the mappings of a source map have them (ECMA-426, Base64 VLQ): digits of five bits each, the least first.
use Rattle.std.specs.Prelude.{ℕ, zero, suc, ◌+◌, ◌-◌, ◌*◌, ◌/◌, ◌%◌, ◌^◌, ◌==◌, nat_lt, nat_le, ◌&&◌, if◌then◌else◌, List, [], ◌∷◌, Option, Some, None, option_map, option_and_then}

-- ---- reading

-- what a byte stands for as a digit: `A` to `Z`, `a` to `z`, `0` to `9`, `+`, `/`
abbrev pub digit_of : ℕ → Option ℕ
digit_of byte =
    if nat_le 65 byte && nat_le byte 90 then Some (byte - 65)
    else (if nat_le 97 byte && nat_le byte 122 then Some (byte - 71)
    else (if nat_le 48 byte && nat_le byte 57 then Some (byte + 4)
    else (if byte == 43 then Some 62
    else (if byte == 47 then Some 63 else None))))

abbrev pub below : ℕ → ℕ → Option ℕ
below bound value = if nat_lt value bound then Some value else None

-- a number has at most 33 bits: a sign, and a difference of two numbers below 2^32
abbrev pub limit : ℕ
limit = 2 ^ 33

-- a digit before the numbers that follow: one from 32 on goes on with the first of them, which has to be there
abbrev pub with_digit : ℕ → List ℕ → Option (List ℕ)
with_digit digit [] = if nat_lt digit 32 then Some (digit ∷ []) else None
with_digit digit (number ∷ numbers) =
    if nat_lt digit 32 then Some (digit ∷ number ∷ numbers) else option_map (λ n. n ∷ numbers) (below limit ((digit - 32) + 32 * number))

-- the numbers that bytes write; none where a byte is no digit, where the last number is cut, or where one is too large
abbrev pub read_numbers : List ℕ → Option (List ℕ)
read_numbers [] = Some []
read_numbers (byte ∷ bytes) = option_and_then (λ digit. option_and_then (with_digit digit) (read_numbers bytes)) (digit_of byte)

-- what was `last`, moved by a number whose lowest bit is its sign; it has to stay from 0 on and below the bound
abbrev pub moved : ℕ → ℕ → ℕ → Option ℕ
moved bound last number =
    if number % 2 == 0 then below bound (last + number / 2)
    else (if nat_le (number / 2) last then below bound (last - number / 2) else None)

-- ---- writing

-- the byte of a digit
abbrev pub byte_of : ℕ → ℕ
byte_of digit =
    if nat_lt digit 26 then digit + 65
    else (if nat_lt digit 52 then digit + 71
    else (if nat_lt digit 62 then digit - 4
    else (if digit == 62 then 43 else 47)))

-- a number in the fewest digits; one below 32 ^ fuel has at most so many
abbrev pub digits_from : ℕ → ℕ → List ℕ
digits_from zero number = number ∷ []
digits_from (suc fuel) number = if nat_lt number 32 then number ∷ [] else (32 + number % 32) ∷ digits_from fuel (number / 32)

-- how a value stands after the last one: the difference, with its sign in the lowest bit
abbrev pub signed : ℕ → ℕ → ℕ
signed last value = if nat_le last value then 2 * (value - last) else 2 * (last - value) + 1
