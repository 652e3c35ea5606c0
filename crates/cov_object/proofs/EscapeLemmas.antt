-- A text with no escapes stands in a JSON string as it is.
use Rattle.std.proofs.Common.{◌≡◌, ℕ, List, [], ◌∷◌, false, refl, arith}
use Rattle.std.specs.List.{list_any}
use Rattle.json.specs.Print.{escape_byte, escape}
use Rattle.cov_object.specs.private.Escapes.{is_escaped}

byte-itself : (byte : ℕ) → is_escaped byte ≡ false → escape_byte byte ≡ byte ∷ []
unfolding escape_byte
byte-itself byte plain = grind arith

pub text-itself : (text : List ℕ) → list_any is_escaped text ≡ false → escape text ≡ text
text-itself [] plain = refl
text-itself (byte ∷ rest) plain = grind (arith, byte-itself byte, text-itself rest)
