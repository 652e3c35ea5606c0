use Rattle.std.proofs.Common.{◌≡◌, ◌++◌, length, zero, chars, encode_utf8_all}
use Rattle.std.specs.String.{string_bytes}
use Rattle.js_text.specs.Identifier.{decoded}
use Rattle.js_lexer.proofs.units.name_of.Given as goal

-- what was read and what is left are the name
abbrev pub invariant-loop-next : goal.invariant-loop-next
invariant-loop-next l = string_bytes l.name ++ encode_utf8_all (decoded zero l.cursor.after) ≡ encode_utf8_all (decoded zero (chars l.spelling))

abbrev pub decreases-loop-next : goal.decreases-loop-next
decreases-loop-next l = length l.cursor.after
