use Rattle.std.proofs.Common.{◌≡◌, ◌+◌, length, take}
use Rattle.js_value.specs.Numbers.{without_separators}
use Rattle.js_value.proofs.literal.place_of_digit.Given as goal

abbrev pub invariant-loop-byte : goal.invariant-loop-byte
invariant-loop-byte l = (l.place ≡ l.byte-index) × (length (without_separators (take l.byte-index l.bytes)) + l.left ≡ l.digits)
