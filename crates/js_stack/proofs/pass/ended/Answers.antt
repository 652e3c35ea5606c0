-- What is made is an expression or a statement, or it goes nowhere.
use Rattle.std.proofs.Common.{◌≡◌, Some, ap, arith, sym, ◌∙◌}
use Rattle.std.specs.Option.{option_map}
use Rattle.js_lexer.specs.Token.{plain_token}
use Rattle.js_reading.specs.Makes.{build}
use Rattle.js_build.specs.View.{plain_piece, plain_pieces}
use Rattle.js_stack.specs.View.{frames, made}
use Rattle.js_stack.proofs.pass.ended.Goals as goal

pub returns-in-Some-Expression : goal.returns-in-Some-Expression
returns-in-Some-Expression c =
    let built : build c.args.form c.args.place (plain_pieces c.args.parts) ≡ option_map plain_piece c.in_ok-other.other = sym (c.in_ok-other.ensures ∙ ap (λ ps. build c.args.form c.args.place (plain_pieces ps)) c.into_vec.ensures) in
    (ap (λ piece. made piece c.args.place (frames c.args.stack.now) (plain_token c.args.token)) (built ∙ ap (option_map plain_piece) (c.in-Some-Expression.is ∙ ap Some c.in-Some-Expression.field-0-is)), omega arith)

pub returns-in-Some-Statement : goal.returns-in-Some-Statement
returns-in-Some-Statement c =
    let built : build c.args.form c.args.place (plain_pieces c.args.parts) ≡ option_map plain_piece c.in_ok-other.other = sym (c.in_ok-other.ensures ∙ ap (λ ps. build c.args.form c.args.place (plain_pieces ps)) c.into_vec.ensures) in
    (ap (λ piece. made piece c.args.place (frames c.args.stack.now) (plain_token c.args.token)) (built ∙ ap (option_map plain_piece) (c.in-Some-Statement.is ∙ ap Some c.in-Some-Statement.field-0-is)), omega arith)
