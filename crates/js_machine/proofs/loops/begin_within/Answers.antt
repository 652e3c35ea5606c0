use Rattle.std.proofs.lemmas.Result.{IfOk-weaker}
use Rattle.std.proofs.Common.{refl, ap, ◌∙◌, arith}
use Rattle.js_meaning.specs.Meaning as M
use Rattle.js_meaning.specs.Effects.{handle}
use Rattle.js_machine.specs.declared.data.Pending.TheVariants as pending
use Rattle.js_machine.specs.private.Config.{pending_comp, plug}
use Rattle.js_machine.proofs.loops.begin_within.Goals as goal

pub returns-in-For-clause-means : goal.returns-in-For-clause-means
returns-in-For-clause-means c = IfOk-weaker c.with_frame.result _ _ (λ control means t. rw c.in-For.is (means t)) c.with_frame.ensures.means

pub returns-in-For-clause-less : goal.returns-in-For-clause-less
returns-in-For-clause-less c = IfOk-weaker c.with_frame.result _ _ (λ control weight w. rw c.in-For.is (omega (arith, weight w))) c.with_frame.ensures.weight

pub returns-in-Subject-clause-means : goal.returns-in-Subject-clause-means
returns-in-Subject-clause-means c = IfOk-weaker c.with_frame-in-Subject.result _ _ (λ control means t. rw c.in-Subject.is (means t)) c.with_frame-in-Subject.ensures.means

pub returns-in-Subject-clause-less : goal.returns-in-Subject-clause-less
returns-in-Subject-clause-less c = IfOk-weaker c.with_frame-in-Subject.result _ _ (λ control weight w. rw c.in-Subject.is (omega (arith, weight w))) c.with_frame-in-Subject.ensures.weight

pub returns-in-Turn-clause-means : goal.returns-in-Turn-clause-means
returns-in-Turn-clause-means c = λ t. rw c.in-Turn.is refl

pub returns-in-Update-clause-means : goal.returns-in-Update-clause-means
returns-in-Update-clause-means c = IfOk-weaker c.with_frame-in-Update.result _ _ (λ control means t. rw c.in-Update.is (means t)) c.with_frame-in-Update.ensures.means

pub returns-in-Update-clause-less : goal.returns-in-Update-clause-less
returns-in-Update-clause-less c = IfOk-weaker c.with_frame-in-Update.result _ _ (λ control weight w. rw c.in-Update.is (omega (arith, weight w))) c.with_frame-in-Update.ensures.weight

pub returns-in-Switch-clause-means : goal.returns-in-Switch-clause-means
returns-in-Switch-clause-means c = IfOk-weaker c.with_frame-in-Switch.result _ _ (λ control means t. rw c.in-Switch.is (means t)) c.with_frame-in-Switch.ensures.means

pub returns-in-Switch-clause-less : goal.returns-in-Switch-clause-less
returns-in-Switch-clause-less c = IfOk-weaker c.with_frame-in-Switch.result _ _ (λ control weight w. rw c.in-Switch.is (omega (arith, weight w))) c.with_frame-in-Switch.ensures.weight

pub returns-in-Block-clause-means : goal.returns-in-Block-clause-means
returns-in-Block-clause-means c = λ t. rw c.in-Block.is refl

pub returns-in-OwnName-clause-means : goal.returns-in-OwnName-clause-means
returns-in-OwnName-clause-means c = IfOk-weaker c.with_frame-in-OwnName.result _ _ (λ control means t. rw c.in-OwnName.is (means t)) c.with_frame-in-OwnName.ensures.means

pub returns-in-OwnName-clause-less : goal.returns-in-OwnName-clause-less
returns-in-OwnName-clause-less c = IfOk-weaker c.with_frame-in-OwnName.result _ _ (λ control weight w. rw c.in-OwnName.is (omega (arith, weight w))) c.with_frame-in-OwnName.ensures.weight

pub returns-in-Target-clause-means : goal.returns-in-Target-clause-means
returns-in-Target-clause-means c = IfOk-weaker c.with_frame-in-Target.result _ _ (λ control means t. rw c.in-Target.is (means t ∙ ap (plug t c.args.frames.now.items) (ap (λ d. handle d (M.with_value (pending_comp t (pending.Taken c.in-Target.round c.args.env c.in-Target.rest)))) (c.bind_to.ensures.means t)))) c.with_frame-in-Target.ensures.means

pub returns-in-Target-clause-less : goal.returns-in-Target-clause-less
returns-in-Target-clause-less c = IfOk-weaker c.with_frame-in-Target.result _ _ (λ control weight w. rw c.in-Target.is (omega (arith, weight w, c.bind_to.ensures.less w))) c.with_frame-in-Target.ensures.weight
