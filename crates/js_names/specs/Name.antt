-- The number of a name: of two names with different numbers, none is the other; and where it is below 2^63, it is the number of one name
-- alone.
use Rattle.std.specs.Prelude.{ℕ, ◌+◌, ◌*◌, ◌%◌, ◌^◌, ◌<◌, List, [], ◌∷◌, length, fold, nat_le, get_or, if◌then◌else◌}

-- the bytes of a text as the digits of a number, the first the lowest, none 0
abbrev pub numeral : List ℕ → ℕ
numeral [] = 0
numeral (byte ∷ bytes) = numeral bytes * 257 + (byte + 1)

-- a number that texts may share: that of a text and one byte more
abbrev pub with_byte : ℕ → ℕ → ℕ
with_byte number byte = (number * 31 + byte) % 2 ^ 32

abbrev pub number_of : List ℕ → ℕ
number_of bytes = if nat_le (length bytes) 7 then numeral bytes else 2 ^ 63 + fold with_byte 0 bytes

-- each is a byte
abbrev pub AreBytes : List ℕ → Type 0
AreBytes bytes = (i : ℕ) → get_or bytes i 0 < 256
