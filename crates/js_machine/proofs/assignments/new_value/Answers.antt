use Rattle.js_machine.specs.private.Config.{view_of}
use Rattle.js_machine.specs.private.Config.{reference_of}
use Rattle.js_machine.proofs.AtOnce.{found_then, some_is}
use Rattle.js_machine.proofs.Assigned.{plain_assigns, operator_assigns}
use Rattle.js_machine.proofs.assignments.new_value.Goals as goal

pub returns-in-None : goal.returns-in-None
returns-in-None c = found_then c.operand.result _ _ c.operand.ensures (λ v has p. rw c.in-None.is (plain_assigns (view_of p c.args.code.now.nodes) c.args.env.index c.args.heap.now c.args.value (reference_of (view_of p c.args.code.now.nodes) c.args.reference.now) v (has p)))

pub returns-in-Ok-Some : goal.returns-in-Ok-Some
returns-in-Ok-Some c = found_then c.operated-new.result _ _ c.operated-new.ensures (λ u turns p. rw c.in-Some.is (operator_assigns (view_of p c.args.code.now.nodes) c.args.env.index c.args.heap.now c.args.value
    c.in-Some.operator (reference_of (view_of p c.args.code.now.nodes) c.args.reference.now) c.in-Some-2.old c.in-Ok-Some.right u
    (some_is _ _ _ c.in-Some-2.is c.in_ok-old-in-Some.ensures p) (some_is _ _ _ c.in-Ok-Some.field-0-is c.in-Ok-Some.ensures p) (turns c.args.heap.now)))
