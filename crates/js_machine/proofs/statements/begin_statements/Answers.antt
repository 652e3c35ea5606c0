use Rattle.std.proofs.lemmas.Result.{IfOk-weaker}
use Rattle.std.proofs.Common.{◌≡◌, [], refl, sym, subst, ap, ◌∙◌, arith}
use Rattle.js_tree.specs.Plain as P
use Rattle.js_code.specs.Node.{build}
use Rattle.js_code.specs.Part.{as_stmts}
use Rattle.js_meaning.specs.Effects.{handle}
use Rattle.js_meaning.specs.Meaning as M
use Rattle.js_machine.specs.private.Config.{stmt_at, stmts_at, plug}
use Rattle.js_machine.proofs.OtherNodes as other
use Rattle.js_machine.proofs.statements.begin_statements.Goals as goal

pub returns-in-Some-clause-means : goal.returns-in-Some-clause-means
returns-in-Some-clause-means c = IfOk-weaker c.with_frame.result _ _ (λ control means t is at. means t ∙ ap (plug t c.args.frames.now.items) (c.begin_first.ensures.means t (M.comp_stmts t.program (stmts_at t c.args.rest) c.args.env.index) is
    ∙ subst (λ (xs : P.Stmts). handle (M.comp_stmt t.program (stmt_at t c.args.first) [] c.args.env.index) (M.with_value (λ v. M.comp_stmts t.program xs c.args.env.index))
    ≡ M.comp_stmts t.program (P.more_stmt (stmt_at t c.args.first) xs) c.args.env.index) (sym (ap as_stmts (at ∙ ap (build t.tree) c.in-Some.ensures.more))) refl)) c.with_frame.ensures.means

pub returns-in-Some-clause-less : goal.returns-in-Some-clause-less
returns-in-Some-clause-less c = IfOk-weaker c.with_frame.result _ _ (λ control weight w lighter. omega (arith, weight w, c.begin_first.ensures.less w lighter)) c.with_frame.ensures.weight

pub returns-in-None-clause-means : goal.returns-in-None-clause-means
returns-in-None-clause-means c = λ t is at. rw (c.execute.ensures, ap as_stmts at ∙ other.no_stmts t.tree c.args.after.now (c.list_of.ensures.end c.in-None.is)) refl

pub returns-in-None-clause-less : goal.returns-in-None-clause-less
returns-in-None-clause-less c = λ w lighter. rw c.execute.ensures (omega arith)
