use Rattle.js_machine.specs.declared.data.Pending.TheVariants as pending
use Rattle.js_machine.specs.private.Config.{view_of, pending_comp}
use Rattle.js_machine.proofs.AtOnce.{some_is}
use Rattle.js_machine.proofs.Assigned.{choice_turns}
use Rattle.js_machine.proofs.choices.choose_expression.Goals as goal

pub returns-in-Some-clause-turns : goal.returns-in-Some-clause-turns
returns-in-Some-clause-turns c = λ p. choice_turns (view_of p c.args.code.now.nodes) c.args.test c.args.env.index c.args.heap.now c.in-Some.value (pending_comp (view_of p c.args.code.now.nodes) (pending.Conditional c.args.holds c.args.fails c.args.env)) _
    (some_is _ _ _ c.in-Some.is c.in_ok-value.ensures p) (c.choose-control.ensures.means (view_of p c.args.code.now.nodes))
