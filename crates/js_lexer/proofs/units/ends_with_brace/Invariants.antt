use Rattle.std.proofs.Common.{◌≡◌, length, chars}
use Rattle.js_text.specs.Units.{ends_with_brace}
use Rattle.js_lexer.proofs.Values.{ended_by}
use Rattle.js_lexer.proofs.units.ends_with_brace.Given as goal

abbrev pub invariant-loop-next : goal.invariant-loop-next
invariant-loop-next l = ended_by l.brace l.cursor.after ≡ ends_with_brace (chars l.text)

abbrev pub decreases-loop-next : goal.decreases-loop-next
decreases-loop-next l = length l.cursor.after
