use Rattle.js_machine.specs.private.AtOnce.{calls}
use Rattle.js_machine.specs.private.Config.{view_of, control_comp, reference_of}
use Rattle.js_machine.proofs.AtOnce.{some_is}
use Rattle.js_machine.proofs.Assigned.{calls_turns, turns_on}
use Rattle.js_machine.proofs.Calls.{call_turns}
use Rattle.js_machine.proofs.operand_calls.call_of_operands.Goals as goal

pub returns-in-Ok-Some-operands-clause-turns : goal.returns-in-Ok-Some-operands-clause-turns
returns-in-Ok-Some-operands-clause-turns c = λ p otherwise. turns_on _ _ _ _ _ _ (calls_turns (view_of p c.args.code.now.nodes) c.args.arguments c.args.env.index c.args.heap.now _ (reference_of (view_of p c.args.code.now.nodes) c.in-Some.reference) c.in-Ok-Some.callee c.this_of-this.result c.in-Ok-Some-operands.values
    (some_is _ _ _ c.in-Some.is c.in_ok-reference.ensures p otherwise (calls (view_of p c.args.code.now.nodes) c.args.arguments c.args.env.index))
    (some_is _ _ _ c.in-Ok-Some.field-0-is c.in-Ok-Some.ensures p) (c.this_of-this.ensures p c.args.code.now.nodes) (some_is _ _ _ c.in-Ok-Some-operands.field-0-is c.in-Ok-Some-operands.ensures p))
    (call_turns c.in-Ok-Some.callee c.this_of-this.result c.in-Ok-Some-operands.values c.args.heap.now (control_comp (view_of p c.args.code.now.nodes) c.call.result) (c.call.ensures.means (view_of p c.args.code.now.nodes)))
