-- At the end stands the end.
use Rattle.std.proofs.Common.{sym, ◌∙◌}
use Rattle.js_lexer.proofs.Places.{moved-zero}
use Rattle.js_lexer.proofs.Starts.{token-end}
use Rattle.js_lexer.proofs.kind.kind.Goals as goal

pub returns-in_default-None : goal.returns-in_default-None
returns-in_default-None c =
    (0, token-end c.args.goal c.args.cursor.now.after c.in_default-None.not-Template-0 (sym c.peek.ensures ∙ c.in_default-None.is-1), moved-zero c.args.cursor.now)
