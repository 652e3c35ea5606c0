use Rattle.js_machine.specs.declared.data.Frame.TheVariants as frame
use Rattle.std.proofs.lemmas.Result.{IfOk-weaker}
use Rattle.std.proofs.Common.{ap, ◌∙◌, arith}
use Rattle.js_meaning.specs.Meaning as M
use Rattle.js_meaning.specs.Effects.{handle}
use Rattle.js_machine.specs.declared.data.Pending.TheVariants as pending
use Rattle.js_machine.specs.private.Config.{pending_comp, plug, frame_comp, control_comp}
use Rattle.js_machine.proofs.references.assign.Goals as goal

pub returns-in-None-clause-means : goal.returns-in-None-clause-means
returns-in-None-clause-means c = IfOk-weaker c.assign_plainly.result _ _ (λ next means t. rw c.in-None.is (means t)) c.assign_plainly.ensures.means

pub returns-in-Ok-clause-means : goal.returns-in-Ok-clause-means
returns-in-Ok-clause-means c = IfOk-weaker c.with_frame.result _ _ (λ control means t. rw c.in-Some.is (means t
    ∙ ap (λ r. plug t c.args.frames.now.items (handle (control_comp t c.get.result) (frame_comp t (frame.Value (pending.Old c.in-Some.operator c.args.value r c.args.env))))) c.in-Ok.ensures
    ∙ ap (λ d. plug t c.args.frames.now.items (handle d (M.with_value (pending_comp t (pending.Old c.in-Some.operator c.args.value c.args.reference c.args.env))))) (c.get.ensures.means t))) c.with_frame.ensures.means

pub returns-in-Ok-clause-less : goal.returns-in-Ok-clause-less
returns-in-Ok-clause-less c = IfOk-weaker c.with_frame.result _ _ (λ control weight w. omega (arith, weight w, c.get.ensures.less w)) c.with_frame.ensures.weight

pub returns-in-None-clause-less : goal.returns-in-None-clause-less
returns-in-None-clause-less c = IfOk-weaker c.assign_plainly.result _ _ (λ next less w. less w) c.assign_plainly.ensures.less
