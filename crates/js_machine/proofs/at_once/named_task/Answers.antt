use Rattle.js_machine.specs.private.Config.{view_of}
use Rattle.js_machine.proofs.AtOnce.{some_is, named_turns}
use Rattle.js_machine.proofs.at_once.named_task.Goals as goal

pub returns-in-Some-clause-turns : goal.returns-in-Some-clause-turns
returns-in-Some-clause-turns c = λ p name. named_turns (view_of p c.args.code.now.nodes) c.args.place c.args.env.index c.args.heap.now c.in-Some.value name (some_is _ _ _ c.in-Some.is c.in_ok-value.ensures p)
