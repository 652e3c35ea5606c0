use Rattle.std.proofs.Common.{subst, sym}
use Rattle.js_lexer.specs.Token.{plain_token}
use Rattle.js_parser.specs.Recent.{Recalls}
use Rattle.js_parser.proofs.LastTurn.{on_ok_then}
use Rattle.js_parser.proofs.Recalling.{async_more, async_kept, async_none}
use Rattle.js_parser.proofs.recent.keep_async.Goals as goal

pub returns-in_default : goal.returns-in_default
returns-in_default c = λ turns d recalls same. async_none turns d (plain_token c.args.token) c.args.asyncs.now (subst (λ last. Recalls last turns) c.in_default.is recalls) same

pub returns-then-not-opens_call : goal.returns-then-not-opens_call
returns-then-not-opens_call c = λ turns d recalls same. async_kept c.in-Some.turn turns d (plain_token c.args.token) c.args.asyncs.now (subst (λ last. Recalls last turns) c.in-Some.is recalls) (sym c.if-not-opens_call.ensures) same

pub returns : goal.returns
returns c = on_ok_then c.push.result _ _ c.push.ensures.ok (λ more turns d recalls same. async_more c.in-Some.turn turns d (plain_token c.args.token) c.args.asyncs.now c.push.new.self (subst (λ last. Recalls last turns) c.in-Some.is recalls) (sym c.if-not-opens_call.ensures) same more)
