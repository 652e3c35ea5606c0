-- Numbers as 32 bits in two's complement, and the operators on them (ECMA-262, 6.1.6.1, 7.1.6 and 7.1.7).
use Rattle.std.specs.Prelude.{ℕ, ◌-◌, ◌*◌, ◌/◌, ◌%◌, ◌^◌, nat_lt, ℤ, pos, ◌-ℤ◌, unsigned_abs, bit_and, bit_or, bit_xor, if◌then◌else◌}
use Rattle.std.specs.Int.{int_rem_euclid, int_shr}

-- ToUint32 (7.1.7): a number modulo 2^32
abbrev pub to_uint32 : ℤ → ℕ
to_uint32 n = unsigned_abs (int_rem_euclid n (pos (2 ^ 32)))

-- the number that 32 bits stand for in two's complement
abbrev pub number_of_bits : ℕ → ℤ
number_of_bits bits = if nat_lt bits (2 ^ 31) then pos bits else pos bits -ℤ pos (2 ^ 32)

-- ToInt32 (7.1.6): the same, from -2^31 on
abbrev pub to_int32 : ℤ → ℤ
to_int32 n = number_of_bits (to_uint32 n)

-- `~` (6.1.6.1.2): each bit is turned
abbrev pub bitwise_not : ℤ → ℤ
bitwise_not n = number_of_bits (2 ^ 32 - 1 - to_uint32 n)

-- by how many bits a number shifts another (6.1.6.1.9 to 6.1.6.1.11)
abbrev pub shift_count : ℤ → ℕ
shift_count n = to_uint32 n % 32

-- `<<` (6.1.6.1.9): bits that come past the 32 are lost
abbrev pub left_shift : ℤ → ℤ → ℤ
left_shift m n = number_of_bits (to_uint32 m * 2 ^ shift_count n % 2 ^ 32)

-- `>>` (6.1.6.1.10): copies of the sign come in, so that it is rounded down
abbrev pub signed_right_shift : ℤ → ℤ → ℤ
signed_right_shift m n = int_shr (to_int32 m) (shift_count n)

-- `>>>` (6.1.6.1.11): zeros come in
abbrev pub unsigned_right_shift : ℤ → ℤ → ℤ
unsigned_right_shift m n = pos (to_uint32 m / 2 ^ shift_count n)

-- `&`, `^` and `|` (6.1.6.1.17 to 6.1.6.1.19), bit by bit
abbrev pub bitwise_and : ℤ → ℤ → ℤ
bitwise_and m n = number_of_bits (bit_and (to_uint32 m) (to_uint32 n))

abbrev pub bitwise_xor : ℤ → ℤ → ℤ
bitwise_xor m n = number_of_bits (bit_xor (to_uint32 m) (to_uint32 n))

abbrev pub bitwise_or : ℤ → ℤ → ℤ
bitwise_or m n = number_of_bits (bit_or (to_uint32 m) (to_uint32 n))
