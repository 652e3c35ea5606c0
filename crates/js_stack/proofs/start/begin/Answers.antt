-- The statement that the token tells begins with it.
use Rattle.std.proofs.Common.{ap, ◌∙◌}
use Rattle.js_lexer.specs.Token.{plain_token}
use Rattle.js_stack.specs.Told.{headed_if}
use Rattle.js_stack.proofs.Told.{statement_told}
use Rattle.js_stack.proofs.start.begin.Goals as goal

pub begin_by-requires : goal.begin_by-requires
begin_by-requires c = ap headed_if c.statement-by.ensures ∙ statement_told (plain_token c.args.token)
