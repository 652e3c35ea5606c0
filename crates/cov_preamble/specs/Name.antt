-- The name of a counted file's function.
use Rattle.std.specs.Prelude.{ℕ, zero, suc, ◌+◌, ◌*◌, ◌/◌, ◌%◌, nat_lt, Bool, List, [], ◌∷◌, ◌++◌, take, length, codes, if◌then◌else◌}
use Rattle.std.specs.List.{list_any}
use Rattle.std.specs.Str.{bytes_eq}
use Rattle.sha1.specs.Sha1.{sha1}

-- a digit from 0 to 35
abbrev pub digit : ℕ → ℕ
digit n = if nat_lt n 10 then 0x30 + n else 0x57 + n

-- a number in base 36, of at most so many digits more than one
abbrev pub digits_of : ℕ → ℕ → List ℕ
digits_of zero n = digit (n % 36) ∷ []
digits_of (suc more) n = (if nat_lt n 36 then [] else digits_of more (n / 36)) ++ digit (n % 36) ∷ []

-- one of 64 bits
abbrev pub in_base_36 : ℕ → List ℕ
in_base_36 n = digits_of 12 n

-- the number that bytes are, after what came before
abbrev pub number_after : ℕ → List ℕ → ℕ
number_after n [] = n
number_after n (byte ∷ bytes) = number_after (n * 256 + byte) bytes

-- twelve hexadecimal digits are six bytes
abbrev pub number_of : List ℕ → ℕ
number_of digest = number_after 0 (take 6 digest)

abbrev pub is_among : List ℕ → List (List ℕ) → Bool
is_among name names = list_any (λ other. bytes_eq other name) names

-- with `_` at its end while it is one of the names: as often as there are names, at most
abbrev pub apart : ℕ → List ℕ → List (List ℕ) → List ℕ
apart zero name names = name
apart (suc more) name names = if is_among name names then apart more (name ++ 0x5F ∷ []) names else name

abbrev pub apart_from : List ℕ → List (List ℕ) → List ℕ
apart_from name names = apart (length names) name names

abbrev pub first_name : List ℕ → List ℕ
first_name path = codes "cov_" ++ in_base_36 (number_of (sha1 path))

abbrev pub cov_name : List ℕ → List (List ℕ) → List ℕ
cov_name path names = apart_from (first_name path) names
