-- Where the end is reached, no `}` stands.
use Rattle.std.proofs.Common.{sym, ◌∙◌}
use Rattle.js_lexer.proofs.Escapes.{braced-ends}
use Rattle.js_lexer.proofs.escape.braced_digits.Goals as goal

pub returns-clause-value : goal.returns-clause-value
returns-clause-value c = sym c.loop-next.invariant.rest ∙ braced-ends c.loop-next.value c.loop-next.cursor.after (sym c.peek.ensures ∙ c.in_default.is)
