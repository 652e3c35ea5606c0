-- What is found further on, by each exit.
use Rattle.std.proofs.Common.{◌≡◌, [], ◌∷◌, None, Some, sym, ◌∙◌, subst}
use Rattle.js_lexer.specs.Token.{plain_token}
use Rattle.js_text.specs.Lex.{next_token}
use Rattle.js_text.specs.declared.goal.Goal.TheVariants.{Div}
use Rattle.js_reading.specs.Turns.{Start, run}
use Rattle.js_parser.specs.Further.{ComesAt}
use Rattle.js_parser.proofs.Advancing.{further_named, further_unlexed, further_unopened, further_none, further_some}
use Rattle.js_parser.proofs.further.further.Goals as goal

pub returns-then-sight : goal.returns-then-sight
returns-then-sight c = λ d sees. further_named d (plain_token c.args.token) c.args.lexer.now (sym sees.0 ∙ c.if-sight.true)

pub returns-in-Err : goal.returns-in-Err
returns-in-Err c = λ d sees. further_unlexed d (plain_token c.args.token) c.args.lexer.now (subst (λ p. next_token Div p ≡ None) c.again-rest.ensures c.in-Err.ensures.fault)

pub returns-then-not-opens_call : goal.returns-then-not-opens_call
returns-then-not-opens_call c = λ d sees.
    further_unopened d (plain_token c.args.token) (plain_token c.in-Ok.opening) c.args.lexer.now c.next.new.self (subst (λ p. next_token Div p ≡ Some (plain_token c.in-Ok.opening, c.next.new.self)) c.again-rest.ensures c.in-Ok.ensures.token) (sym c.opens_call.ensures ∙ c.if-not-opens_call.true)

pub returns-then-comes : goal.returns-then-comes
returns-then-comes c = λ d sees.
    let word = plain_token c.args.token in
    let opening = plain_token c.in-Ok.opening in
    further_some d word opening c.args.lexer.now c.next.new.self (sym sees.0 ∙ c.if-sight.false) (sym c.opens_call.ensures ∙ c.if-not-opens_call.false)
    (subst (λ p. next_token Div p ≡ Some (opening, c.next.new.self)) c.again-rest.ensures c.in-Ok.ensures.token)
    (subst (λ b. ComesAt b word.loc (run Start (word ∷ opening ∷ [])) c.next.new.self) c.if-comes.true c.in_ok-comes.ensures)

pub returns-else-comes : goal.returns-else-comes
returns-else-comes c = λ d sees.
    let word = plain_token c.args.token in
    let opening = plain_token c.in-Ok.opening in
    further_none d word opening c.args.lexer.now c.next.new.self
    (subst (λ p. next_token Div p ≡ Some (opening, c.next.new.self)) c.again-rest.ensures c.in-Ok.ensures.token)
    (subst (λ b. ComesAt b word.loc (run Start (word ∷ opening ∷ [])) c.next.new.self) c.if-comes.false c.in_ok-comes.ensures)
