use Rattle.std.proofs.Common.{sym}
use Rattle.js_machine.specs.private.Config.{view_of}
use Rattle.js_machine.proofs.AtOnce.{some_is}
use Rattle.js_machine.proofs.at_once.referred_task.Goals as goal

pub returns-in-Some-clause-turns : goal.returns-in-Some-clause-turns
returns-in-Some-clause-turns c = λ p. rw (c.in-Update.is, sym c.in_ok-same-in-Update.ensures, c.given.ensures.means (view_of p c.args.code.now.nodes)) (some_is _ _ _ c.in-Some.is c.in_ok-done-in-Update.ensures.turns p)
