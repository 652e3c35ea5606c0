use Rattle.std.proofs.lemmas.Result.{IfOk-weaker}
use Rattle.js_meaning.specs.Meaning as M
use Rattle.js_machine.specs.declared.data.Pending.TheVariants as pending
use Rattle.js_machine.specs.declared.data.Frame.TheVariants as frame
use Rattle.js_meaning.specs.Effects.{handle}
use Rattle.js_machine.specs.private.Config.{key_of, plug, frame_comp}
use Rattle.std.proofs.Common.{arith, ap, ◌∙◌}
use Rattle.js_machine.proofs.references.call_reference.Goals as goal

pub returns-in-Name-clause-means : goal.returns-in-Name-clause-means
returns-in-Name-clause-means c = IfOk-weaker c.with_frame.result _ _ (λ control means t. rw c.in-Name.is (means t)) c.with_frame.ensures.means

pub returns-in-Name-clause-less : goal.returns-in-Name-clause-less
returns-in-Name-clause-less c = IfOk-weaker c.with_frame.result _ _ (λ control weight w. omega (arith, weight w)) c.with_frame.ensures.weight

pub returns-in-Ok-clause-means : goal.returns-in-Ok-clause-means
returns-in-Ok-clause-means c = IfOk-weaker c.with_frame-in-Ok.result _ _ (λ control means t. rw c.in-Member.is (means t
    ∙ ap (λ v. plug t c.args.frames.now.items (handle (M.get_member_of c.in-Member.base (key_of t c.in-Member.key)) (frame_comp t (frame.Value (pending.Callee c.args.arguments c.args.env v))))) c.in-Ok.ensures)) c.with_frame-in-Ok.ensures.means

pub returns-in-Ok-clause-less : goal.returns-in-Ok-clause-less
returns-in-Ok-clause-less c = IfOk-weaker c.with_frame-in-Ok.result _ _ (λ control weight w. omega (arith, weight w)) c.with_frame-in-Ok.ensures.weight
