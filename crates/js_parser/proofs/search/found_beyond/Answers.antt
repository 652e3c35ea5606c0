-- The first that is found with the token, ahead of it or further on.
use Rattle.std.proofs.Common.{◌≡◌, is_some, true, false, sym, ap, ◌∙◌, subst, arith}
use Rattle.std.proofs.lemmas.Result.{IfOk-weaker}
use Rattle.js_lexer.specs.Token.{plain_token}
use Rattle.js_reading.specs.Found as Found
use Rattle.js_reading.specs.Found.{Turns}
use Rattle.js_reading.specs.Reads.{next_two}
use Rattle.js_reading.specs.Turns.{Config}
use Rattle.js_stack.specs.Sight.{Sees}
use Rattle.js_parser.specs.Further.{FoundBeyond, FoundFurther}
use Rattle.js_parser.specs.Recent.{Remembers, Saw}
use Rattle.js_parser.proofs.Advancing.{beyond_found, beyond_ahead, beyond_further}
use Rattle.js_parser.proofs.search.found_beyond.Goals as goal

pub returns-then-is_some : goal.returns-then-is_some
returns-then-is_some c = λ before d remembers saw. beyond_found c.in_ok-found.found before d (plain_token c.args.token) c.args.lexer.now (grind (arith, c.is_some.ensures, c.if-is_some.ensures, c.if-is_some.true)) (c.in_ok-found.ensures before d remembers saw)

pub returns-in-Some : goal.returns-in-Some
returns-in-Some c = λ before d remembers saw.
    subst (λ o. FoundBeyond o before d (plain_token c.args.token) c.args.lexer.now) (sym c.in-Some.is)
    (beyond_ahead c.in_ok-found.found c.in-Some.field-0 before d (plain_token c.args.token) c.args.lexer.now (grind (arith, c.is_some.ensures, c.if-is_some.ensures, c.if-is_some.false)) (c.in_ok-found.ensures before d remembers saw)
    (sym c.in-Some.is ∙ (c.in_ok-ahead.ensures before d remembers saw.0 ∙ ap (λ p. Found.ahead before d (plain_token c.args.token) (next_two p)) c.again.ensures)))

pub returns-in-None : goal.returns-in-None
returns-in-None c =
    let token = plain_token c.args.token in
    let there = c.args.lexer.now in
    let unfound : is_some c.in_ok-found.found ≡ false = grind (arith, c.is_some.ensures, c.if-is_some.ensures, c.if-is_some.false) in
    IfOk-weaker c.further.result (λ find. (d : Config) → Sees c.args.seen.sight d → FoundFurther find d token there)
    (λ find. (before : Turns) (d : Config) → Remembers c.args.recent.now before → Saw c.args.seen d token → FoundBeyond find before d token there)
    (λ find far before d remembers saw. beyond_further c.in_ok-found.found find before d token there unfound (c.in_ok-found.ensures before d remembers saw)
    (sym c.in-None.is ∙ (c.in_ok-ahead.ensures before d remembers saw.0 ∙ ap (λ p. Found.ahead before d token (next_two p)) c.again.ensures)) (far d saw.0))
    c.further.ensures
