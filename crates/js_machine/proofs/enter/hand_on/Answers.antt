use Rattle.std.proofs.Common.{refl, ap}
use Rattle.std.proofs.lemmas.Result.{IfOk-weaker}
use Rattle.js_value.specs.Objects.{kind_of}
use Rattle.js_meaning.specs.Files as F
use Rattle.js_machine.specs.declared.data.Step.TheVariants as step
use Rattle.js_machine.specs.private.Config.{view_of, step_comp}
use Rattle.js_machine.specs.private.State.{store_in}
use Rattle.js_machine.proofs.Stores.{act_becomes, becomes_same}
use Rattle.js_machine.proofs.enter.hand_on.Goals as goal

pub returns-in-Object : goal.returns-in-Object
returns-in-Object c = IfOk-weaker c.hand_object.result _ _ (λ step becomes p base carries. rw c.in-Object.is
    (act_becomes (λ s. s) (λ s. F.hand_kind p (kind_of s.heap c.in-Object.callee.index) c.in-Object.callee.index c.args.this c.args.arguments) (store_in base c.args.state.now) (store_in base c.args.state.now) (store_in base c.hand_object.new.state)
    (step_comp (view_of p c.args.code.now.nodes) step) refl (becomes p base carries))) c.hand_object.ensures

pub returns-in-Primitive : goal.returns-in-Primitive
returns-in-Primitive c = λ p base carries. rw c.in-Primitive.is (becomes_same _ _ _ (ap (λ control. step_comp (view_of p c.args.code.now.nodes) (step.Go control)) c.not_a_function.ensures))
