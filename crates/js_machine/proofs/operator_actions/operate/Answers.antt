use Rattle.std.proofs.Common.{refl, ◌∙◌}
use Rattle.std.proofs.lemmas.Result.{IfOk-weaker}
use Rattle.js_heap.specs.Heap.{heap_of}
use Rattle.js_meaning.specs.Meaning as M
use Rattle.js_value.specs.Members.{is_in, is_instance}
use Rattle.js_machine.proofs.Looked.{has_one, operated_else}
use Rattle.js_machine.proofs.Chosen.{halts, halted_if}
use Rattle.js_machine.proofs.operator_actions.operate.Goals as goal

pub returns-in-Ok-clause-means : goal.returns-in-Ok-clause-means
returns-in-Ok-clause-means c = λ t. rw (c.truth.ensures, c.in-In.is, c.in-Ok.ensures) refl

pub returns-in-Err-clause-means : goal.returns-in-Err-clause-means
returns-in-Err-clause-means c = halted_if c.halted.result c.in-Err.halt _ _ c.halted.ensures.memory c.halted.ensures.means
    (λ control n means t. rw c.in-In.is (means t ∙ halts (is_in (heap_of c.args.heap.now) c.args.left.now c.args.right.now) M.truth c.in-Err.halt c.in-Err.ensures n))

pub returns-in-Ok-is_instance-clause-means : goal.returns-in-Ok-is_instance-clause-means
returns-in-Ok-is_instance-clause-means c = λ t. rw (c.truth-in-Ok-is_instance.ensures, c.in-InstanceOf.is, c.in-Ok-is_instance.ensures) refl

pub returns-in-Err-is_instance-clause-means : goal.returns-in-Err-is_instance-clause-means
returns-in-Err-is_instance-clause-means c = halted_if c.halted-in-Err-is_instance.result c.in-Err-is_instance.halt _ _ c.halted-in-Err-is_instance.ensures.memory c.halted-in-Err-is_instance.ensures.means
    (λ control n means t. rw c.in-InstanceOf.is (means t ∙ halts (is_instance (heap_of c.args.heap.now) c.args.left.now c.args.right.now) M.truth c.in-Err-is_instance.halt c.in-Err-is_instance.ensures n))

pub calculate-requires : goal.calculate-requires
calculate-requires c = has_one c.args.operator c.in_default.not-In c.in_default.not-InstanceOf

pub returns-in_default-clause-means : goal.returns-in_default-clause-means
returns-in_default-clause-means c = IfOk-weaker c.calculate.result _ _
    (λ control means t. means t ∙ operated_else c.args.operator c.in_default.not-In c.in_default.not-InstanceOf c.args.left.now c.args.right.now c.args.heap.now) c.calculate.ensures.means
