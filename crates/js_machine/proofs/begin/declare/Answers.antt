use Rattle.std.proofs.lemmas.Result.{IfOk-weaker}
use Rattle.std.proofs.Common.{sym, ap, ◌∙◌, arith}
use Rattle.js_code.specs.Code.{reader}
use Rattle.js_code.specs.Node.{build}
use Rattle.js_code.specs.Part.{as_declarator}
use Rattle.js_tree.specs.Plain as P
use Rattle.js_meaning.specs.Meaning as M
use Rattle.js_machine.specs.private.Config.{view_of, name_of, expr_or, plug}
use Rattle.js_machine.specs.private.Weight.{place_weight, node_weight}
use Rattle.js_machine.proofs.OtherNodes as other
use Rattle.js_machine.proofs.Forms.{declared_less, no_name}
use Rattle.js_machine.proofs.Weights.{heavy, lighter}
use Rattle.js_machine.proofs.begin.declare.Goals as goal

pub returns-in-Declarator-clause-means : goal.returns-in-Declarator-clause-means
returns-in-Declarator-clause-means c = IfOk-weaker c.begin_declarator.result _ _ (λ next means p. means (view_of p c.args.code.now.nodes)
    ∙ ap (plug (view_of p c.args.code.now.nodes) c.args.frames.now.items) (ap (λ n. M.declares p c.args.kind n (expr_or (view_of p c.args.code.now.nodes) c.there.result) c.args.env.index) (ap name_of (sym c.node.ensures.is ∙ c.in-Declarator.is))
    ∙ ap (λ e. M.declares p c.args.kind c.in-Declarator.name e c.args.env.index) (sym (c.there.ensures.expr p))
    ∙ ap (λ x. M.comp_declarator p c.args.kind (as_declarator x) c.args.env.index) (sym (c.node.ensures.read ∙ ap (build (reader c.args.code.now.nodes)) c.in-Declarator.is)))) c.begin_declarator.ensures.means

pub returns-in-Declarator-clause-less : goal.returns-in-Declarator-clause-less
returns-in-Declarator-clause-less c = IfOk-weaker c.begin_declarator.result _ _ (λ next less. omega (
  arith,
  less place_weight,
  declared_less place_weight c.there.result,
  c.there.ensures.weight,
  lighter c.args.declarator c.node.result.now c.node.ensures.below,
  ap (node_weight place_weight) c.in-Declarator.is,
)) c.begin_declarator.ensures.less

pub returns-in_default-clause-means : goal.returns-in_default-clause-means
returns-in_default-clause-means c = IfOk-weaker c.begin_declarator-in_default.result _ _ (λ next means p. means (view_of p c.args.code.now.nodes)
    ∙ ap (plug (view_of p c.args.code.now.nodes) c.args.frames.now.items) (ap (λ n. M.declares p c.args.kind n P.none_expr c.args.env.index) (no_name c.args.code.now.nodes c.node.ensures.few)
    ∙ ap (λ x. M.comp_declarator p c.args.kind x c.args.env.index) (sym (ap as_declarator c.node.ensures.read ∙ other.no_declarator (reader c.args.code.now.nodes) c.node.result.now c.in_default.not-Declarator)))) c.begin_declarator-in_default.ensures.means

pub returns-in_default-clause-less : goal.returns-in_default-clause-less
returns-in_default-clause-less c = IfOk-weaker c.begin_declarator-in_default.result _ _ (λ next less. omega (arith, less place_weight, heavy c.args.declarator)) c.begin_declarator-in_default.ensures.less
