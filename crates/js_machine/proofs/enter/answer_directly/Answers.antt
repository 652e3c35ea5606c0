use Rattle.std.proofs.Common.{refl, ap}
use Rattle.std.proofs.lemmas.Result.{IfOk-weaker}
use Rattle.std.proofs.Common.{Some}
use Rattle.js_meaning.specs.Meaning as M
use Rattle.js_value.specs.Host.{error_made}
use Rattle.js_value.specs.Objects.{next_object}
use Rattle.js_value.specs.Realm.{object}
use Rattle.js_value.specs.Requiring.{required_path}
use Rattle.js_meaning.specs.declared.outcome.Completion.TheVariants as completion
use Rattle.js_meaning.specs.Effects.{ret}
use Rattle.js_meaning.specs.Files as F
use Rattle.js_machine.specs.private.Config.{view_of, control_comp, step_comp}
use Rattle.js_machine.specs.private.State.{store_in}
use Rattle.js_machine.proofs.Acts.{acts}
use Rattle.js_machine.proofs.Stores.{act_becomes, becomes_same, heap_becomes}
use Rattle.std.proofs.Common.{subst}
use Rattle.js_value.specs.Running.{write as written}
use Rattle.js_meaning.specs.Effects.{act}
use Rattle.js_machine.specs.private.State.{Becomes}
use Rattle.js_machine.proofs.enter.answer_directly.Goals as goal

pub returns-in-Value : goal.returns-in-Value
returns-in-Value c = λ p base carries. rw c.in-Value.is (becomes_same _ _ _ refl)

pub returns-in_ok-error-in-Throw : goal.returns-in_ok-error-in-Throw
returns-in_ok-error-in-Throw c = λ p base carries. rw c.in-Throw.is (heap_becomes _ _ c.args.state.now c.make_error.new.heap base
    (acts c.args.state.now.heap c.make_error.new.heap (error_made c.in-Throw.kind (Some c.in-Throw.message)) (λ h. ret (completion.Throw (object (next_object h)))) _
    c.in_ok-error-in-Throw.ensures.made (ap (λ n. ret (completion.Throw (object n))) c.in_ok-error-in-Throw.ensures.object)))

pub returns-in-Refuse : goal.returns-in-Refuse
returns-in-Refuse c = λ p base carries. rw c.in-Refuse.is (becomes_same _ _ _ refl)

pub returns-in-Write : goal.returns-in-Write
returns-in-Write c = IfOk-weaker c.write.result _ _ (λ step becomes p base carries. rw c.in-Write.is
    (subst (λ bytes. Becomes (act (written bytes) (λ s. M.done)) (store_in base c.args.state.now) (step_comp (view_of p c.args.code.now.nodes) step) (store_in base c.write.new.state)) c.as_slice.ensures (becomes (view_of p c.args.code.now.nodes) base))) c.write.ensures

pub returns-in-Require : goal.returns-in-Require
returns-in-Require c = IfOk-weaker c.require.result _ _ (λ step becomes p base carries. rw c.in-Require.is
    (act_becomes (λ s. s) (λ s. F.require_path p s (required_path s c.args.callee.index c.in-Require.units)) (store_in base c.args.state.now) (store_in base c.args.state.now) (store_in base c.require.new.state) (step_comp (view_of p c.args.code.now.nodes) step) refl (becomes p base carries))) c.require.ensures

pub returns-in-Enter : goal.returns-in-Enter
returns-in-Enter c = λ p base carries. rw c.in-Enter.is (becomes_same _ _ _ (ap (control_comp (view_of p c.args.code.now.nodes)) c.undefined.ensures))
