use Rattle.std.proofs.lemmas.Result.{IfOk-weaker}
use Rattle.std.proofs.Common.{sym, ap, ◌∙◌, arith}
use Rattle.js_code.specs.Code.{reader}
use Rattle.js_code.specs.Node.{build}
use Rattle.js_code.specs.Part.{as_case, as_cases}
use Rattle.js_tree.specs.Plain as P
use Rattle.js_meaning.specs.Meaning as M
use Rattle.js_machine.specs.private.Config.{view_of, stmts_at, plug}
use Rattle.js_machine.specs.private.Weight.{place_weight, node_weight}
use Rattle.js_machine.proofs.OtherNodes as other
use Rattle.js_machine.proofs.Weights.{heavy, lighter}
use Rattle.js_machine.proofs.begin.select_case.Goals as goal

pub returns-in-Case-clause-means : goal.returns-in-Case-clause-means
returns-in-Case-clause-means c = IfOk-weaker c.begin_select_case.result _ _ (λ next means p. means (view_of p c.args.code.now.nodes) c.in-Case.loc
    ∙ ap (plug (view_of p c.args.code.now.nodes) c.args.frames.now.items) (ap (λ e. M.comp_select p (P.more_case (P.MakeCase c.in-Case.loc e (stmts_at (view_of p c.args.code.now.nodes) c.in-Case.statements)) (as_cases ((reader c.args.code.now.nodes) c.args.rest))) c.args.env.index c.args.value (M.comp_default p (as_cases ((reader c.args.code.now.nodes) c.args.all)) c.args.env.index)) (sym (c.there.ensures.expr p))
    ∙ ap (λ x. M.comp_select p (P.more_case (as_case x) (as_cases ((reader c.args.code.now.nodes) c.args.rest))) c.args.env.index c.args.value (M.comp_default p (as_cases ((reader c.args.code.now.nodes) c.args.all)) c.args.env.index)) (sym (c.node.ensures.read ∙ ap (build (reader c.args.code.now.nodes)) c.in-Case.is)))) c.begin_select_case.ensures.means

pub returns-in-Case-clause-less : goal.returns-in-Case-clause-less
returns-in-Case-clause-less c = IfOk-weaker c.begin_select_case.result _ _ (λ next less. omega (arith, less place_weight, c.there.ensures.weight, lighter c.args.case c.node.result.now c.node.ensures.below, ap (node_weight place_weight) c.in-Case.is)) c.begin_select_case.ensures.less

pub returns-in_default-clause-means : goal.returns-in_default-clause-means
returns-in_default-clause-means c = λ p. ap (plug (view_of p c.args.code.now.nodes) c.args.frames.now.items) (ap (λ x. M.comp_select p (P.more_case x (as_cases ((reader c.args.code.now.nodes) c.args.rest))) c.args.env.index c.args.value (M.comp_default p (as_cases ((reader c.args.code.now.nodes) c.args.all)) c.args.env.index))
    (sym (ap as_case c.node.ensures.read ∙ other.no_case (reader c.args.code.now.nodes) c.node.result.now c.in_default.not-Case)))

pub returns-in_default-clause-less : goal.returns-in_default-clause-less
returns-in_default-clause-less c = omega (arith, heavy c.args.case)
