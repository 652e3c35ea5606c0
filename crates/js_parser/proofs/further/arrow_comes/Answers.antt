-- Each token that is asked for goes on, or what comes after the arguments is told.
use Rattle.std.proofs.Common.{◌≡◌, true, false, Some, None, is_some, sym, ◌∙◌, subst, arith}
use Rattle.js_lexer.specs.Token.{plain_token}
use Rattle.js_reading.specs.Turns.{turn}
use Rattle.js_reading.specs.Reads.{asked_for}
use Rattle.js_stack.specs.Reader.{machine, height_of}
use Rattle.js_parser.specs.Further.{Arguing}
use Rattle.js_parser.proofs.Advancing.{unasked_comes, refused_comes, arrow_there, finished_comes, argues_first, argues_on, argues_smaller, not_begun, not_opened, both_read, went, stayed}
use Rattle.js_parser.proofs.further.arrow_comes.Goals as goal

pub returns-then-not-begun : goal.returns-then-not-begun
returns-then-not-begun c =
    not_begun (plain_token c.args.word) (plain_token c.args.opening) c.args.lexer.now
    (subst (λ x. turn x (plain_token c.args.word) ≡ None) c.new-reader.ensures (stayed c.in_ok-begun.begun (machine c.new-reader.result) (machine c.goes_on.new.reader) (plain_token c.args.word) c.in_ok-begun.ensures c.if-not-begun.true))

pub returns-then-not-opened : goal.returns-then-not-opened
returns-then-not-opened c =
    not_opened (plain_token c.args.word) (plain_token c.args.opening) c.args.lexer.now (machine c.goes_on.new.reader)
    (subst (λ x. turn x (plain_token c.args.word) ≡ Some (machine c.goes_on.new.reader)) c.new-reader.ensures (went c.in_ok-begun.begun (machine c.new-reader.result) (machine c.goes_on.new.reader) (plain_token c.args.word) c.in_ok-begun.ensures c.if-not-begun.false))
    (stayed c.in_ok-opened.opened (machine c.goes_on.new.reader) (machine c.goes_on-2.new.reader) (plain_token c.args.opening) c.in_ok-opened.ensures c.if-not-opened.true)

pub tokens-init : goal.tokens-init
tokens-init c =
    subst (λ p. Arguing (plain_token c.args.word) (plain_token c.args.opening) c.args.lexer.now (machine c.goes_on-2.new.reader) p) (sym c.again-rest.ensures)
    (argues_first (plain_token c.args.word) (plain_token c.args.opening) c.args.lexer.now (machine c.goes_on-2.new.reader)
    (both_read (plain_token c.args.word) (plain_token c.args.opening) (machine c.goes_on.new.reader) (machine c.goes_on-2.new.reader)
    (subst (λ x. turn x (plain_token c.args.word) ≡ Some (machine c.goes_on.new.reader)) c.new-reader.ensures (went c.in_ok-begun.begun (machine c.new-reader.result) (machine c.goes_on.new.reader) (plain_token c.args.word) c.in_ok-begun.ensures c.if-not-begun.false))
    (went c.in_ok-opened.opened (machine c.goes_on.new.reader) (machine c.goes_on-2.new.reader) (plain_token c.args.opening) c.in_ok-opened.ensures c.if-not-opened.false)))

pub returns-in-Err : goal.returns-in-Err
returns-in-Err c =
    c.tokens.invariant.back false (unasked_comes (plain_token c.args.word).loc (machine c.tokens.reader) c.tokens.rest c.tokens.invariant.tokens c.tokens.invariant.ran (subst (λ g. asked_for g c.tokens.rest ≡ None) c.goal.ensures c.in-Err.ensures.fault))

pub returns-then-whole : goal.returns-then-whole
returns-then-whole c =
    c.tokens.invariant.back true
    (arrow_there (plain_token c.args.word).loc (machine c.tokens.reader) c.tokens.rest c.ask.new.lexer (plain_token c.in-Ok.token) (subst (λ g. asked_for g c.tokens.rest ≡ Some (plain_token c.in-Ok.token, c.ask.new.lexer)) c.goal.ensures c.in-Ok.ensures.token) (sym c.is_arrow_after-whole.ensures ∙ c.if-whole.true))

pub returns-then-not-taken : goal.returns-then-not-taken
returns-then-not-taken c =
    c.tokens.invariant.back false
    (refused_comes (plain_token c.args.word).loc (machine c.tokens.reader) c.tokens.rest c.ask.new.lexer (plain_token c.in-Ok.token) c.tokens.invariant.tokens c.tokens.invariant.ran (subst (λ g. asked_for g c.tokens.rest ≡ Some (plain_token c.in-Ok.token, c.ask.new.lexer)) c.goal.ensures c.in-Ok.ensures.token)
    (sym c.is_arrow_after-whole.ensures ∙ c.if-whole.false) (stayed c.in_ok-taken.taken (machine c.tokens.reader) (machine c.goes_on-in-tokens.new.reader) (plain_token c.in-Ok.token) c.in_ok-taken.ensures c.if-not-taken.true))

pub returns-then-is_some : goal.returns-then-is_some
returns-then-is_some c =
    let on = argues_on (plain_token c.args.word) (plain_token c.args.opening) c.args.lexer.now (machine c.tokens.reader) (machine c.goes_on-in-tokens.new.reader) c.tokens.rest c.ask.new.lexer (plain_token c.in-Ok.token) c.tokens.invariant
    (subst (λ g. asked_for g c.tokens.rest ≡ Some (plain_token c.in-Ok.token, c.ask.new.lexer)) c.goal.ensures c.in-Ok.ensures.token) (sym c.is_arrow_after-whole.ensures ∙ c.if-whole.false)
    (went c.in_ok-taken.taken (machine c.tokens.reader) (machine c.goes_on-in-tokens.new.reader) (plain_token c.in-Ok.token) c.in_ok-taken.ensures c.if-not-taken.false) in
    let over : is_some (height_of (machine c.goes_on-in-tokens.new.reader)) ≡ true = grind (arith, c.height.ensures, c.is_some.ensures, c.if-is_some.ensures, c.if-is_some.true) in
    on.back false (finished_comes (plain_token c.args.word).loc (machine c.goes_on-in-tokens.new.reader) c.ask.new.lexer over)

pub tokens-preserved : goal.tokens-preserved
tokens-preserved c =
    argues_on (plain_token c.args.word) (plain_token c.args.opening) c.args.lexer.now (machine c.tokens.reader) (machine c.goes_on-in-tokens.new.reader) c.tokens.rest c.ask.new.lexer (plain_token c.in-Ok.token) c.tokens.invariant
    (subst (λ g. asked_for g c.tokens.rest ≡ Some (plain_token c.in-Ok.token, c.ask.new.lexer)) c.goal.ensures c.in-Ok.ensures.token) (sym c.is_arrow_after-whole.ensures ∙ c.if-whole.false)
    (went c.in_ok-taken.taken (machine c.tokens.reader) (machine c.goes_on-in-tokens.new.reader) (plain_token c.in-Ok.token) c.in_ok-taken.ensures c.if-not-taken.false)

pub tokens-smaller : goal.tokens-smaller
tokens-smaller c =
    let going : is_some (height_of (machine c.goes_on-in-tokens.new.reader)) ≡ false = grind (arith, c.height.ensures, c.is_some.ensures, c.if-is_some.ensures, c.if-is_some.false) in
    argues_smaller (plain_token c.args.word) (plain_token c.args.opening) c.args.lexer.now (machine c.tokens.reader) (machine c.goes_on-in-tokens.new.reader) c.tokens.rest c.ask.new.lexer (plain_token c.in-Ok.token) c.tokens.invariant
    (subst (λ g. asked_for g c.tokens.rest ≡ Some (plain_token c.in-Ok.token, c.ask.new.lexer)) c.goal.ensures c.in-Ok.ensures.token)
    (went c.in_ok-taken.taken (machine c.tokens.reader) (machine c.goes_on-in-tokens.new.reader) (plain_token c.in-Ok.token) c.in_ok-taken.ensures c.if-not-taken.false) going
