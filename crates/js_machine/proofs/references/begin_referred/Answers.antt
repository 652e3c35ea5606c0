use Rattle.std.proofs.lemmas.Result.{IfOk-weaker}
use Rattle.js_machine.specs.declared.data.Frame.TheVariants as frame
use Rattle.std.proofs.Common.{refl, ap, ◌∙◌, arith}
use Rattle.js_meaning.specs.Meaning as M
use Rattle.js_meaning.specs.Effects.{handle}
use Rattle.js_machine.specs.declared.data.Pending.TheVariants as pending
use Rattle.js_machine.specs.private.Config.{pending_comp, plug, frame_comp, control_comp, reference_of}
use Rattle.js_machine.proofs.references.begin_referred.Goals as goal

pub returns-in-Call-clause-means : goal.returns-in-Call-clause-means
returns-in-Call-clause-means c = rw c.in-Call.is c.call_reference.ensures.means

pub returns-in-Call-clause-less : goal.returns-in-Call-clause-less
returns-in-Call-clause-less c = rw c.in-Call.is c.call_reference.ensures.less

pub returns-in-Ok-clause-means : goal.returns-in-Ok-clause-means
returns-in-Ok-clause-means c = IfOk-weaker c.with_frame.result _ _ (λ control means t. rw c.in-Update.is (means t
    ∙ ap (λ r. plug t c.args.frames.now.items (handle (control_comp t c.get.result) (frame_comp t (frame.Value (pending.Update c.in-Update.prefix c.in-Update.operator r c.args.env))))) c.in-Ok.ensures
    ∙ ap (λ d. plug t c.args.frames.now.items (handle d (M.with_value (pending_comp t (pending.Update c.in-Update.prefix c.in-Update.operator c.args.reference c.args.env))))) (c.get.ensures.means t))) c.with_frame.ensures.means

pub returns-in-Ok-clause-less : goal.returns-in-Ok-clause-less
returns-in-Ok-clause-less c = IfOk-weaker c.with_frame.result _ _ (λ control weight w. rw c.in-Update.is (omega (arith, weight w, c.get.ensures.less w))) c.with_frame.ensures.weight

pub returns-in-Delete-clause-means : goal.returns-in-Delete-clause-means
returns-in-Delete-clause-means c = λ t. rw c.in-Delete.is refl

pub returns-in-Assign-clause-means : goal.returns-in-Assign-clause-means
returns-in-Assign-clause-means c = rw c.in-Assign.is c.assign.ensures.means

pub returns-in-Assign-clause-less : goal.returns-in-Assign-clause-less
returns-in-Assign-clause-less c = rw c.in-Assign.is c.assign.ensures.less

pub returns-in-Take-clause-means : goal.returns-in-Take-clause-means
returns-in-Take-clause-means c = IfOk-weaker c.with_frame-in-Take.result _ _ (λ control means t. rw c.in-Take.is (means t ∙ ap (plug t c.args.frames.now.items) (ap (λ d. handle d (M.with_value (pending_comp t (pending.Taken c.in-Take.round c.args.env c.in-Take.rest)))) (c.put.ensures.means t ∙ ap (M.put_value c.args.env.index (reference_of t c.args.reference)) c.into_inner.ensures)))) c.with_frame-in-Take.ensures.means

pub returns-in-Take-clause-less : goal.returns-in-Take-clause-less
returns-in-Take-clause-less c = IfOk-weaker c.with_frame-in-Take.result _ _ (λ control weight w. rw c.in-Take.is (omega (arith, weight w, c.put.ensures.less w))) c.with_frame-in-Take.ensures.weight
