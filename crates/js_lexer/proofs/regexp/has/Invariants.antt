use Rattle.std.proofs.Common.{◌≡◌, length}
use Rattle.js_text.specs.RegularExpression.{has}
use Rattle.js_lexer.proofs.regexp.has.Given as goal

abbrev pub invariant-loop-next : goal.invariant-loop-next
invariant-loop-next l = has l.character l.rest.after ≡ has l.character l.cursor.after

abbrev pub decreases-loop-next : goal.decreases-loop-next
decreases-loop-next l = length l.rest.after
