-- The statement that the token tells begins with it, or an expression does.
use Rattle.std.proofs.Common.{◌∷◌, ap, subst, sym, ◌∙◌}
use Rattle.js_lexer.specs.Token.{plain_token}
use Rattle.js_reading.specs.Turns as turns
use Rattle.js_stack.specs.Told.{headed_if}
use Rattle.js_stack.specs.View.{frames, plain_frame, Gives}
use Rattle.js_stack.proofs.start.begin_by.Goals as goal

pub begin_form-requires : goal.begin_form-requires
begin_form-requires c = sym (ap headed_if c.in-Some.is) ∙ c.requires

pub returns-in_ok-push-in-None : goal.returns-in_ok-push-in-None
returns-in_ok-push-in-None c =
    let t = plain_token c.args.token in
    subst
    (λ due. Gives c.want.result (frames c.want.new.stack) due)
    (ap (λ stack. turns.want t (turns.InExpression c.args.token.loc ∷ frames stack)) c.in_ok-push-in-None.ensures
    ∙ sym (ap (λ by. turns.begin_by by t (plain_frame c.args.frame ∷ frames c.args.stack.now)) c.in-None.is))
    c.want.ensures
