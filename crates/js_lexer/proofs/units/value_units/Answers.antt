-- At the end nothing is left.
use Rattle.std.proofs.Common.{sym, ◌∙◌}
use Rattle.js_lexer.proofs.Values.{value-end}
use Rattle.js_lexer.proofs.units.value_units.Goals as goal

pub returns : goal.returns
returns c = value-end c.loop-next.units _ c.loop-next.cursor.after (sym c.peek.ensures ∙ c.in_default.is) c.loop-next.invariant
