use Rattle.std.proofs.Common.{◌≡◌, length, chars}
use Rattle.js_text.specs.RegularExpression.{are_flags}
use Rattle.js_lexer.proofs.regexp.are_flags.Given as goal

abbrev pub invariant-loop-next : goal.invariant-loop-next
invariant-loop-next l = are_flags l.cursor.after ≡ are_flags (chars l.text)

abbrev pub decreases-loop-next : goal.decreases-loop-next
decreases-loop-next l = length l.cursor.after
