use Rattle.std.proofs.Common.{refl, sym, ap, ◌∙◌}
use Rattle.std.proofs.lemmas.Result.{IfOk-weaker}
use Rattle.js_code.specs.Node.{build}
use Rattle.js_machine.proofs.OtherForms as forms
use Rattle.js_code.specs.Part.{as_stmt}
use Rattle.js_machine.specs.private.Config.{step_comp}
use Rattle.js_machine.proofs.turns.begin_pass.Goals as goal

pub returns-in-ForIn : goal.returns-in-ForIn
returns-in-ForIn c = IfOk-weaker c.pass_body.result _ _ (λ step is t at. ap (step_comp t) is ∙ rw (c.in-ForIn.is, ap as_stmt (at ∙ ap (build t.tree) c.in-ForIn.is)) refl) c.pass_body.ensures

pub returns-in-ForOf : goal.returns-in-ForOf
returns-in-ForOf c = IfOk-weaker c.pass_body-in-ForOf.result _ _ (λ step is t at. ap (step_comp t) is ∙ rw (c.in-ForOf.is, ap as_stmt (at ∙ ap (build t.tree) c.in-ForOf.is)) refl) c.pass_body-in-ForOf.ensures

pub returns-in_default : goal.returns-in_default
returns-in_default c = λ t at. rw c.undefined.ensures (sym (forms.else_pass t.program _ c.args.env.index c.args.inner.index _ t.tree c.args.node.now c.in_default.not-ForIn c.in_default.not-ForOf))
