-- A comment that the end is reached in is not closed.
use Rattle.std.proofs.Common.{sym, ◌∙◌}
use Rattle.js_lexer.proofs.CommentTexts.{close-end}
use Rattle.js_lexer.proofs.comment_list.skip_to_close.Goals as goal

pub returns-in_default-clause-rest : goal.returns-in_default-clause-rest
returns-in_default-clause-rest c = close-end c.loop-cursor.cursor.after (sym c.peek.ensures ∙ c.in_default.is) ∙ c.loop-cursor.invariant.rest
