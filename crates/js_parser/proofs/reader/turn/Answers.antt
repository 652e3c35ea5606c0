use Rattle.std.proofs.Common.{◌≡◌, ◌∙◌, Ok, Some, None, ap, subst, sym}
use Rattle.js_lexer.specs.Token.{plain_token}
use Rattle.js_reading.specs.Reads.{asked_for}
use Rattle.js_stack.specs.Reader.{machine}
use Rattle.js_parser.proofs.Stopping.{asked_comments}
use Rattle.js_parser.proofs.Standing.{ends_here, tells_refused, tells_read, leaves_so, stands_on, took, left, holds, ok_then, found_then}
use Rattle.js_parser.proofs.reader.turn.Goals as goal

pub keep-requires : goal.keep-requires
keep-requires c = asked_comments c.args.text.now c.goal.result c.args.lexer.now c.ask.new.lexer (plain_token c.in-Ok.token) c.utf8.text c.requires.stands.within c.in-Ok.ensures.token

pub returns-in-Err-clause-refused : goal.returns-in-Err-clause-refused
returns-in-Err-clause-refused c =
    ends_here c.args.text.now c.args.lexer.now (machine c.args.reader.now) c.args.kept.now c.args.recent.now c.in-Err.fault.at c.requires.stands c.requires.going c.in-Err.ensures.fault_at
    (subst (λ g. asked_for g c.args.lexer.now ≡ None) c.goal.ensures c.in-Err.ensures.fault)

pub returns-in-Err-take-clause-refused : goal.returns-in-Err-take-clause-refused
returns-in-Err-take-clause-refused c =
    leaves_so c.args.text.now c.args.lexer.now c.ask.new.lexer (machine c.args.reader.now) c.args.kept.now c.args.recent.now (plain_token c.in-Ok.token) c.in-Err-take.why c.in-Ok.token.start c.args.limit c.requires.stands c.in-Ok.ensures.start
    (subst (λ g. asked_for g c.args.lexer.now ≡ Some (plain_token c.in-Ok.token, c.ask.new.lexer)) c.goal.ensures c.in-Ok.ensures.token) c.in-Err-take.ensures.refused

pub refused-requires-clause-told : goal.refused-requires-clause-told
refused-requires-clause-told c =
    let refused = left c.in-Ok-take.taken (machine c.args.reader.now) (machine c.take.new.reader) (plain_token c.in-Ok.token) c.args.limit c.in-Ok-take.ensures.taken c.if-not-taken.true in
    tells_refused c.args.text.now c.args.lexer.now c.ask.new.lexer (machine c.args.reader.now) c.args.kept.now c.args.recent.now (plain_token c.in-Ok.token) c.in-Ok.token.start c.found_beyond-found.result c.requires.stands c.requires.going c.in-Ok.ensures.start
    (subst (λ g. asked_for g c.args.lexer.now ≡ Some (plain_token c.in-Ok.token, c.ask.new.lexer)) c.goal.ensures c.in-Ok.ensures.token) refused
    (ok_then c.found_beyond-found.result _ _ c.found_beyond-found.ensures (λ find h. h c.requires.stands.turns (machine c.args.reader.now) c.requires.stands.remembers c.see-seen.ensures))

pub left_out-requires-clause-told : goal.left_out-requires-clause-told
left_out-requires-clause-told c =
    let read = took c.in-Ok-take.taken (machine c.args.reader.now) (machine c.take.new.reader) (plain_token c.in-Ok.token) c.args.limit c.in-Ok-take.ensures.taken c.if-not-taken.false in
    tells_read c.args.text.now c.args.lexer.now c.ask.new.lexer (machine c.args.reader.now) c.args.kept.now c.args.recent.now (plain_token c.in-Ok.token) c.in-Ok-Some.find c.requires.stands c.requires.going
    (subst (λ g. asked_for g c.args.lexer.now ≡ Some (plain_token c.in-Ok.token, c.ask.new.lexer)) c.goal.ensures c.in-Ok.ensures.token)
    (sym (found_then c.found_read.result (Some c.in-Ok-Some.find) _ c.found_read.ensures (c.in-Ok-Some.is ∙ ap Ok c.in-Ok-Some.field-0-is) c.requires.stands.led.tokens c.requires.stands.turns (machine c.args.reader.now) (machine c.take.new.reader) c.requires.stands.remembers c.see-seen.ensures c.requires.stands.searched read.0))

pub returns-clause-stands : goal.returns-clause-stands
returns-clause-stands c =
    let read = took c.in-Ok-take.taken (machine c.args.reader.now) (machine c.take.new.reader) (plain_token c.in-Ok.token) c.args.limit c.in-Ok-take.ensures.taken c.if-not-taken.false in
    stands_on c.args.text.now c.args.lexer.now c.ask.new.lexer (machine c.args.reader.now) (machine c.take.new.reader) c.args.kept.now c.keep.new.kept c.args.recent.now c.push.new.self (plain_token c.in-Ok.token) c.requires.stands
    (subst (λ g. asked_for g c.args.lexer.now ≡ Some (plain_token c.in-Ok.token, c.ask.new.lexer)) c.goal.ensures c.in-Ok.ensures.token)
    read.0
    (sym (found_then c.found_read.result None _ c.found_read.ensures (c.in-Ok-None.is ∙ ap Ok c.in-Ok-None.field-0-is) c.requires.stands.led.tokens c.requires.stands.turns (machine c.args.reader.now) (machine c.take.new.reader) c.requires.stands.remembers c.see-seen.ensures c.requires.stands.searched read.0))
    (holds c.push.result _ c.push.ensures (sym c.is_err-2.ensures.value ∙ c.if-is_err-2.false) c.requires.stands.turns (machine c.args.reader.now) c.requires.stands.remembers c.see-seen.ensures.0)
    (holds c.keep.result _ c.keep.ensures (sym c.is_err.ensures.value ∙ c.if-is_err.false))
    c.in-Ok.ensures.text
