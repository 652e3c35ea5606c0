use Rattle.std.proofs.lemmas.Result.{IfOk-weaker}
use Rattle.std.proofs.Common.{refl, sym, ap, ◌∙◌, arith}
use Rattle.js_code.specs.Node.{build}
use Rattle.js_machine.proofs.OtherForms as forms
use Rattle.js_meaning.specs.Meaning as M
use Rattle.js_meaning.specs.Effects.{handle}
use Rattle.js_code.specs.Part.{as_expr, as_stmt}
use Rattle.js_machine.specs.private.Config.{labels_of, plug}
use Rattle.js_machine.proofs.loops.begin_again.Goals as goal

pub returns-in-DoWhile-clause-means : goal.returns-in-DoWhile-clause-means
returns-in-DoWhile-clause-means c = IfOk-weaker c.with_frame.result _ _ (λ control means t at. rw c.in-DoWhile.is (means t ∙ ap (plug t c.args.frames.now.items) (ap (λ x. handle (M.comp_expr t.program (as_expr (t.tree c.in-DoWhile.test)) c.args.env.index) (M.with_value (M.turn (as_stmt x) (labels_of t c.args.labels) c.args.env.index))) (at ∙ ap (build t.tree) c.in-DoWhile.is)))) c.with_frame.ensures.means

pub returns-in-DoWhile-clause-less : goal.returns-in-DoWhile-clause-less
returns-in-DoWhile-clause-less c = IfOk-weaker c.with_frame.result _ _ (λ control weight w. rw c.in-DoWhile.is (omega (arith, weight w))) c.with_frame.ensures.weight

pub returns-in-For-clause-means : goal.returns-in-For-clause-means
returns-in-For-clause-means c = λ t at. rw (c.in-For.is, ap as_stmt (at ∙ ap (build t.tree) c.in-For.is)) refl

pub returns-in_default-clause-means : goal.returns-in_default-clause-means
returns-in_default-clause-means c = λ t at. ap (plug t c.args.frames.now.items) (ap (λ x. M.comp_stmt t.program (as_stmt x) (labels_of t c.args.labels) c.args.env.index) at ∙ sym (forms.else_again t (labels_of t c.args.labels) c.args.env.index t.tree c.args.node.now c.in_default.not-DoWhile c.in_default.not-For))
