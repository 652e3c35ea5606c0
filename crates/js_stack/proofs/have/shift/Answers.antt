-- The expression that the token tells goes on with the one before it.
use Rattle.std.proofs.Common.{ap, ◌∙◌}
use Rattle.js_lexer.specs.Token.{plain_token}
use Rattle.js_stack.specs.Told.{joined_if}
use Rattle.js_stack.proofs.Told.{join_told}
use Rattle.js_stack.proofs.have.shift.Goals as goal

pub shift_by-requires : goal.shift_by-requires
shift_by-requires c = ap joined_if c.join-by.ensures ∙ join_told (plain_token c.args.token)
