-- A comment that the end is reached in is not closed.
use Rattle.std.proofs.Common.{sym, ap, ◌∙◌}
use Rattle.js_text.specs.Comment.{multi_line_rest}
use Rattle.js_lexer.proofs.Steps.{none_is}
use Rattle.js_lexer.proofs.comment.skip_multi_line.Goals as goal

pub returns-clause-rest : goal.returns-clause-rest
returns-clause-rest c = sym c.loop-next.invariant.rest ∙ ap multi_line_rest (none_is c.loop-next.cursor.after (sym c.peek.ensures ∙ c.in_default.is))
