-- The expression that the token tells begins with it.
use Rattle.std.proofs.Common.{ap, subst, ◌∙◌}
use Rattle.js_lexer.specs.Token.{plain_token}
use Rattle.js_reading.specs.Turns as turns
use Rattle.js_stack.specs.Told.{headed_if}
use Rattle.js_stack.specs.View.{frames, Gives}
use Rattle.js_stack.proofs.Told.{prefix_told}
use Rattle.js_stack.proofs.start.want.Goals as goal

pub want_by-requires : goal.want_by-requires
want_by-requires c = ap headed_if c.prefix-by.ensures ∙ prefix_told (plain_token c.args.token)

pub returns : goal.returns
returns c =
    subst
    (λ stack. Gives c.want_by.result (frames c.push.new.self) (turns.want (plain_token c.args.token) (frames stack)))
    c.in_ok-push.ensures
    (subst (λ by. Gives c.want_by.result (frames c.push.new.self) (turns.want_by by (plain_token c.args.token) (frames c.push.new.self))) c.prefix-by.ensures c.want_by.ensures)
