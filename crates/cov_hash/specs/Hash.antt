-- The hash that a coverage carries of its file's bytes.
use Rattle.std.specs.Prelude.{ℕ, List}
use Rattle.hex.specs.Hex.{encode_lower}
use Rattle.sha1.specs.Sha1.{sha1}

-- the SHA-1 of the bytes, two lower-case hexadecimal digits a byte
abbrev pub hash_text : List ℕ → List ℕ
hash_text bytes = encode_lower (sha1 bytes)
