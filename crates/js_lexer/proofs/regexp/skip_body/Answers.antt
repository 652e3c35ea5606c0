-- A line terminator or the end before the closing `/`: there is none.
use Rattle.std.proofs.Common.{sym, ◌∙◌}
use Rattle.js_lexer.proofs.Steps.{body-breaks, body-end}
use Rattle.js_lexer.proofs.regexp.skip_body.Goals as goal

pub returns-then-is_line_terminator-clause-rest : goal.returns-then-is_line_terminator-clause-rest
returns-then-is_line_terminator-clause-rest c =
    sym c.loop-next.invariant.rest
    ∙ body-breaks c.loop-next.escaped c.loop-next.inside c.loop-next.cursor.after c.in-Some.next (sym c.peek.ensures ∙ c.in-Some.is) (sym c.is_line_terminator.ensures ∙ c.if-is_line_terminator.true)

pub returns-clause-rest : goal.returns-clause-rest
returns-clause-rest c =
    sym c.loop-next.invariant.rest ∙ body-end c.loop-next.escaped c.loop-next.inside c.loop-next.cursor.after (sym c.peek.ensures ∙ c.in_default.is)
