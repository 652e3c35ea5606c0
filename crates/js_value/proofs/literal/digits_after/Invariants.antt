use Rattle.std.proofs.Common.{◌≡◌, take}
use Rattle.std.specs.Str.Parse.{digits_value_after}
use Rattle.js_value.specs.private.Capped.{capped}
use Rattle.js_value.specs.Numbers.{without_separators}
use Rattle.js_value.proofs.literal.digits_after.Given as goal

abbrev pub invariant-loop-byte : goal.invariant-loop-byte
invariant-loop-byte l = l.total ≡ capped (digits_value_after l.base l.before (without_separators (take l.byte-index l.bytes)))
