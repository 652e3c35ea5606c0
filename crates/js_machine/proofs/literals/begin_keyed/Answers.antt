use Rattle.std.proofs.lemmas.Result.{IfOk-weaker}
use Rattle.std.proofs.Common.{ap, ◌∙◌, arith}
use Rattle.js_meaning.specs.Effects.{handle}
use Rattle.js_machine.specs.declared.data.Action.TheVariants as action
use Rattle.js_machine.specs.declared.data.Control.TheVariants as control
use Rattle.js_machine.specs.declared.data.Frame.TheVariants as frame
use Rattle.js_machine.specs.declared.data.Pending.TheVariants as pending
use Rattle.js_machine.specs.declared.data.Task.TheVariants as task
use Rattle.js_machine.specs.declared.parts.Form.TheVariants as form
use Rattle.js_machine.specs.private.Config.{control_comp, frame_comp, plug}
use Rattle.js_machine.proofs.literals.begin_keyed.Goals as goal

pub returns-in-Value-clause-means : goal.returns-in-Value-clause-means
returns-in-Value-clause-means c = IfOk-weaker c.with_frame.result _ _ (λ next means t. rw c.in-Value.is (means t
    ∙ ap (λ k. plug t c.args.frames.now.items (handle (control_comp t (control.Begin (task.EvaluateNamed k c.in-Value.value c.args.env))) (frame_comp t (frame.Value (pending.As c.in-Value.object c.args.key))))) c.in_ok-title.ensures)) c.with_frame.ensures.means

pub returns-in-Value-clause-less : goal.returns-in-Value-clause-less
returns-in-Value-clause-less c = IfOk-weaker c.with_frame.result _ _ (λ control weight w. rw c.in-Value.is (omega (arith, weight w))) c.with_frame.ensures.weight

pub returns-in-Method-clause-means : goal.returns-in-Method-clause-means
returns-in-Method-clause-means c = IfOk-weaker c.with_frame-in-Method.result _ _ (λ next means t. rw c.in-Method.is (means t
    ∙ ap (λ k. plug t c.args.frames.now.items (handle (control_comp t (control.Do (action.Close form.Method c.in-Method.function k c.args.env))) (frame_comp t (frame.Value (pending.As c.in-Method.object c.args.key))))) c.in_ok-title.ensures)) c.with_frame-in-Method.ensures.means

pub returns-in-Method-clause-less : goal.returns-in-Method-clause-less
returns-in-Method-clause-less c = IfOk-weaker c.with_frame-in-Method.result _ _ (λ control weight w. rw c.in-Method.is (omega (arith, weight w))) c.with_frame-in-Method.ensures.weight
