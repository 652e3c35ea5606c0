-- The expression that the token tells begins with it, or the token is one itself.
use Rattle.std.proofs.Common.{ap, subst, sym, ◌∙◌}
use Rattle.js_lexer.specs.Token.{plain_token}
use Rattle.js_reading.specs.Turns as turns
use Rattle.js_stack.specs.Told.{headed_if}
use Rattle.js_stack.specs.View.{frames, Gives}
use Rattle.js_stack.proofs.start.want_by.Goals as goal

pub begin_form-requires : goal.begin_form-requires
begin_form-requires c = sym (ap headed_if c.in-Some.is) ∙ c.requires

pub returns-in-None : goal.returns-in-None
returns-in-None c =
    subst (λ due. Gives c.begin_leaf.result (frames c.args.stack.now) due) (sym (ap (λ by. turns.want_by by (plain_token c.args.token) (frames c.args.stack.now)) c.in-None.is)) c.begin_leaf.ensures
