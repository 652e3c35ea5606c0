-- Hexadecimal digits are ASCII.
use Rattle.std.proofs.Common.{◌≡◌, ℕ, zero, suc, ◌/◌, ◌%◌, true, List, [], ◌∷◌, nat_lt, refl, arith}
use Rattle.std.specs.List.{list_all}
use Rattle.std.specs.Str.{IsAscii, IsUtf8}
use Rattle.std.proofs.lemmas.Bool.{and_parts, ltb-true}
use Rattle.std.proofs.lemmas.Str.{IsUtf8-from_ascii}
use Rattle.sha1.specs.Sha1.{sha1}
use Rattle.hex.specs.Hex.{lower_digits, encode_with, encode_lower}
use Rattle.cov_hash.specs.Hash.{hash_text}

pub each_ascii : (bs : List ℕ) → list_all (λ b. nat_lt b 128) bs ≡ true → IsAscii bs
each_ascii [] all i = omega arith
each_ascii (b ∷ bs) all zero = ltb-true b 128 (and_parts (nat_lt b 128) (list_all (λ b. nat_lt b 128) bs) all).0
each_ascii (b ∷ bs) all (suc i) = each_ascii bs (and_parts (nat_lt b 128) (list_all (λ b. nat_lt b 128) bs) all).1 i

digits_ascii : IsAscii lower_digits
digits_ascii = each_ascii lower_digits refl

encoded_ascii : (bytes : List ℕ) → IsAscii (encode_lower bytes)
unfolding encode_with
encoded_ascii [] i = omega arith
encoded_ascii (b ∷ bytes) zero = digits_ascii (b / 16)
encoded_ascii (b ∷ bytes) (suc zero) = digits_ascii (b % 16)
encoded_ascii (b ∷ bytes) (suc (suc i)) = encoded_ascii bytes i

pub hash_utf8 : (bytes : List ℕ) → IsUtf8 (hash_text bytes)
hash_utf8 bytes = IsUtf8-from_ascii (hash_text bytes) (encoded_ascii (sha1 bytes))
