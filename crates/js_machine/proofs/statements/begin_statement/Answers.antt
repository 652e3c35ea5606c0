use Rattle.std.proofs.lemmas.Result.{IfOk-weaker}
use Rattle.std.proofs.Common.{◌∷◌, refl, sym, ap, ◌∙◌, arith}
use Rattle.js_meaning.specs.Scopes.{init_scope, target_scope}
use Rattle.js_meaning.specs.Meaning as M
use Rattle.js_meaning.specs.Effects.{handle}
use Rattle.js_code.specs.Node.{build}
use Rattle.js_machine.proofs.OtherForms as forms
use Rattle.js_code.specs.Part.{as_expr, as_for_init, as_for_target, as_stmt}
use Rattle.js_machine.specs.private.Config.{name_of, expr_if, frame_comp, labels_of, plug, control_comp}
use Rattle.js_machine.specs.declared.data.Control.TheVariants as control
use Rattle.js_machine.specs.declared.data.Frame.TheVariants as frame
use Rattle.js_machine.specs.declared.data.Task.TheVariants as task
use Rattle.js_machine.proofs.Forms.{returned_is}
use Rattle.js_machine.proofs.statements.begin_statement.Goals as goal

pub returns-in-Block-clause-means : goal.returns-in-Block-clause-means
returns-in-Block-clause-means c = λ t named at. rw c.in-Block.is refl

pub returns-in-VariableDeclaration-clause-means : goal.returns-in-VariableDeclaration-clause-means
returns-in-VariableDeclaration-clause-means c = λ t named at. rw c.in-VariableDeclaration.is refl

pub returns-in-Expression-clause-means : goal.returns-in-Expression-clause-means
returns-in-Expression-clause-means c = IfOk-weaker c.with_frame.result _ _ (λ control means t named at. rw c.in-Expression.is (means t)) c.with_frame.ensures.means

pub returns-in-Expression-clause-less : goal.returns-in-Expression-clause-less
returns-in-Expression-clause-less c = IfOk-weaker c.with_frame.result _ _ (λ control weight w. rw c.in-Expression.is (omega (arith, weight w))) c.with_frame.ensures.weight

pub returns-in-If-clause-means : goal.returns-in-If-clause-means
returns-in-If-clause-means c = IfOk-weaker c.with_frame-in-If.result _ _ (λ control means t named at. rw c.in-If.is (means t)) c.with_frame-in-If.ensures.means

pub returns-in-If-clause-less : goal.returns-in-If-clause-less
returns-in-If-clause-less c = IfOk-weaker c.with_frame-in-If.result _ _ (λ control weight w. rw c.in-If.is (omega (arith, weight w))) c.with_frame-in-If.ensures.weight

pub returns-in-DoWhile-clause-means : goal.returns-in-DoWhile-clause-means
returns-in-DoWhile-clause-means c = λ t named at. rw (c.in-DoWhile.is, ap as_stmt (at ∙ ap (build t.tree) c.in-DoWhile.is)) refl

pub returns-in-While-clause-means : goal.returns-in-While-clause-means
returns-in-While-clause-means c = IfOk-weaker c.with_frame-in-While.result _ _ (λ control means t named at. rw c.in-While.is (means t ∙ ap (plug t c.args.frames.now.items) (ap (λ x. handle (M.comp_expr t.program (as_expr (t.tree c.in-While.test)) c.args.env.index) (M.with_value (M.turn (as_stmt x) (labels_of t c.args.labels) c.args.env.index))) (at ∙ ap (build t.tree) c.in-While.is)))) c.with_frame-in-While.ensures.means

pub returns-in-While-clause-less : goal.returns-in-While-clause-less
returns-in-While-clause-less c = IfOk-weaker c.with_frame-in-While.result _ _ (λ control weight w. rw c.in-While.is (omega (arith, weight w))) c.with_frame-in-While.ensures.weight

pub returns-in-For-clause-means : goal.returns-in-For-clause-means
returns-in-For-clause-means c = λ t named at. rw c.in-For.is (ap (plug t c.args.frames.now.items) (ap (λ x. M.in_scope (init_scope (as_for_init (t.tree c.in-For.init))) c.args.env.index (λ inner. handle (M.comp_for_init t.program (as_for_init (t.tree c.in-For.init)) inner) (M.with_value (λ v.
    M.anew (as_for_init (t.tree c.in-For.init)) inner (M.turn_if t.program (expr_if t c.in-For.test) (as_stmt x) (labels_of t c.args.labels)))))) (at ∙ ap (build t.tree) c.in-For.is)))

pub returns-in-ForIn-clause-means : goal.returns-in-ForIn-clause-means
returns-in-ForIn-clause-means c = IfOk-weaker c.begin_round.result _ _ (λ control is t named at. ap (λ x. plug t c.args.frames.now.items (control_comp t x)) is ∙ rw c.in-ForIn.is (ap (plug t c.args.frames.now.items) (ap (λ x. M.in_scope (target_scope (as_for_target (t.tree c.in-ForIn.target))) c.args.env.index (λ inner. handle (M.comp_expr t.program (as_expr (t.tree c.in-ForIn.object)) inner)
    (M.with_value (M.goes_through_keys t.program (as_stmt x) (as_for_target (t.tree c.in-ForIn.target)) (labels_of t c.args.labels) c.args.env.index)))) (at ∙ ap (build t.tree) c.in-ForIn.is)))) c.begin_round.ensures

pub returns-in-ForOf-clause-means : goal.returns-in-ForOf-clause-means
returns-in-ForOf-clause-means c = IfOk-weaker c.begin_round-in-ForOf.result _ _ (λ control is t named at. ap (λ x. plug t c.args.frames.now.items (control_comp t x)) is ∙ rw c.in-ForOf.is (ap (plug t c.args.frames.now.items) (ap (λ x. M.in_scope (target_scope (as_for_target (t.tree c.in-ForOf.target))) c.args.env.index (λ inner. handle (M.comp_expr t.program (as_expr (t.tree c.in-ForOf.iterable)) inner)
    (M.with_value (M.goes_through_items t.program (as_stmt x) (as_for_target (t.tree c.in-ForOf.target)) (labels_of t c.args.labels) c.args.env.index)))) (at ∙ ap (build t.tree) c.in-ForOf.is)))) c.begin_round-in-ForOf.ensures

pub returns-in_ok-copied-in-Continue-clause-means : goal.returns-in_ok-copied-in-Continue-clause-means
returns-in_ok-copied-in-Continue-clause-means c = λ t named at. rw (c.in-Continue.is, c.in_ok-copied-in-Continue.ensures) refl

pub returns-in_ok-copied-in-Break-clause-means : goal.returns-in_ok-copied-in-Break-clause-means
returns-in_ok-copied-in-Break-clause-means c = λ t named at. rw (c.in-Break.is, c.in_ok-copied-in-Break.ensures) refl

pub returns-in-Return-clause-means : goal.returns-in-Return-clause-means
returns-in-Return-clause-means c = IfOk-weaker c.with_frame-in-Return.result _ _ (λ control means t named at. rw c.in-Return.is (means t ∙ ap (plug t c.args.frames.now.items) (returned_is t.program (expr_if t c.in-Return.value) c.args.env.index))) c.with_frame-in-Return.ensures.means

pub returns-in-Return-clause-less : goal.returns-in-Return-clause-less
returns-in-Return-clause-less c = IfOk-weaker c.with_frame-in-Return.result _ _ (λ control weight w. rw c.in-Return.is (omega (arith, weight w))) c.with_frame-in-Return.ensures.weight

pub returns-in-Switch-clause-means : goal.returns-in-Switch-clause-means
returns-in-Switch-clause-means c = IfOk-weaker c.with_frame-in-Switch.result _ _ (λ control means t named at. rw c.in-Switch.is (means t)) c.with_frame-in-Switch.ensures.means

pub returns-in-Switch-clause-less : goal.returns-in-Switch-clause-less
returns-in-Switch-clause-less c = IfOk-weaker c.with_frame-in-Switch.result _ _ (λ control weight w. rw c.in-Switch.is (omega (arith, weight w))) c.with_frame-in-Switch.ensures.weight

pub returns-in_ok-labels-in-Labelled-clause-means : goal.returns-in_ok-labels-in-Labelled-clause-means
returns-in_ok-labels-in-Labelled-clause-means c = IfOk-weaker c.with_frame-in-Labelled.result _ _ (λ next means t named at. rw c.in-Labelled.is (means t
    ∙ ap (λ l. plug t c.args.frames.now.items (handle (control_comp t (control.Begin (task.Execute c.in-Labelled.body l c.args.env))) (frame_comp t (frame.AfterLabel c.args.place)))) c.in_ok-labels-in-Labelled.ensures
    ∙ ap (λ n. plug t c.args.frames.now.items (handle (M.comp_stmt t.program (as_stmt (t.tree c.in-Labelled.body)) (n ∷ labels_of t c.args.labels) c.args.env.index) (M.after_label n))) (named ∙ ap name_of c.in-Labelled.is))) c.with_frame-in-Labelled.ensures.means

pub returns-in_ok-labels-in-Labelled-clause-less : goal.returns-in_ok-labels-in-Labelled-clause-less
returns-in_ok-labels-in-Labelled-clause-less c = IfOk-weaker c.with_frame-in-Labelled.result _ _ (λ control weight w. rw c.in-Labelled.is (omega (arith, weight w))) c.with_frame-in-Labelled.ensures.weight

pub returns-in-Throw-clause-means : goal.returns-in-Throw-clause-means
returns-in-Throw-clause-means c = IfOk-weaker c.with_frame-in-Throw.result _ _ (λ control means t named at. rw c.in-Throw.is (means t)) c.with_frame-in-Throw.ensures.means

pub returns-in-Throw-clause-less : goal.returns-in-Throw-clause-less
returns-in-Throw-clause-less c = IfOk-weaker c.with_frame-in-Throw.result _ _ (λ control weight w. rw c.in-Throw.is (omega (arith, weight w))) c.with_frame-in-Throw.ensures.weight

pub returns-in-TryCatch-clause-means : goal.returns-in-TryCatch-clause-means
returns-in-TryCatch-clause-means c = IfOk-weaker c.begin_try.result _ _ (λ next means t named at. rw c.in-TryCatch.is (means t)) c.begin_try.ensures.means

pub returns-in-TryFinally-clause-means : goal.returns-in-TryFinally-clause-means
returns-in-TryFinally-clause-means c = IfOk-weaker c.with_frame-in-TryFinally.result _ _ (λ control means t named at. rw c.in-TryFinally.is (means t)) c.with_frame-in-TryFinally.ensures.means

pub returns-in-TryFinally-clause-less : goal.returns-in-TryFinally-clause-less
returns-in-TryFinally-clause-less c = IfOk-weaker c.with_frame-in-TryFinally.result _ _ (λ control weight w. rw c.in-TryFinally.is (omega (arith, weight w))) c.with_frame-in-TryFinally.ensures.weight

pub returns-in-TryCatchFinally-clause-means : goal.returns-in-TryCatchFinally-clause-means
returns-in-TryCatchFinally-clause-means c = IfOk-weaker c.with_frame-in-TryCatchFinally.result _ _ (λ control means t named at. rw c.in-TryCatchFinally.is (means t)) c.with_frame-in-TryCatchFinally.ensures.means

pub returns-in-TryCatchFinally-clause-less : goal.returns-in-TryCatchFinally-clause-less
returns-in-TryCatchFinally-clause-less c = IfOk-weaker c.with_frame-in-TryCatchFinally.result _ _ (λ control weight w. rw c.in-TryCatchFinally.is (omega (arith, weight w))) c.with_frame-in-TryCatchFinally.ensures.weight

pub returns-in_default-clause-means : goal.returns-in_default-clause-means
returns-in_default-clause-means c = λ t named at. rw c.undefined.ensures (ap (plug t c.args.frames.now.items) (sym (forms.else_stmt t.program _ c.args.env.index t.tree c.args.node.now c.in_default.not-Block c.in_default.not-VariableDeclaration c.in_default.not-Expression c.in_default.not-If c.in_default.not-DoWhile c.in_default.not-While c.in_default.not-For c.in_default.not-ForIn c.in_default.not-ForOf c.in_default.not-Continue c.in_default.not-Break c.in_default.not-Return c.in_default.not-Switch c.in_default.not-Labelled c.in_default.not-Throw c.in_default.not-TryCatch c.in_default.not-TryFinally c.in_default.not-TryCatchFinally)))

pub returns-in-TryCatch-clause-less : goal.returns-in-TryCatch-clause-less
returns-in-TryCatch-clause-less c = IfOk-weaker c.begin_try.result _ _ (λ next weight w. rw c.in-TryCatch.is (omega (arith, weight w))) c.begin_try.ensures.weight

pub returns-in-Block-clause-less : goal.returns-in-Block-clause-less
returns-in-Block-clause-less c = λ w. rw c.in-Block.is (omega arith)

pub returns-in-VariableDeclaration-clause-less : goal.returns-in-VariableDeclaration-clause-less
returns-in-VariableDeclaration-clause-less c = λ w. rw c.in-VariableDeclaration.is (omega arith)

pub returns-in-DoWhile-clause-less : goal.returns-in-DoWhile-clause-less
returns-in-DoWhile-clause-less c = λ w. rw c.in-DoWhile.is (omega arith)

pub returns-in-For-clause-less : goal.returns-in-For-clause-less
returns-in-For-clause-less c = λ w. rw c.in-For.is (omega arith)

pub returns-in_ok-copied-in-Continue-clause-less : goal.returns-in_ok-copied-in-Continue-clause-less
returns-in_ok-copied-in-Continue-clause-less c = λ w. rw c.in-Continue.is (omega arith)

pub returns-in_ok-copied-in-Break-clause-less : goal.returns-in_ok-copied-in-Break-clause-less
returns-in_ok-copied-in-Break-clause-less c = λ w. rw c.in-Break.is (omega arith)
