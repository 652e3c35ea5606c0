use Rattle.std.proofs.Common.{sym, ap, ◌∙◌, drop, arith}
use Rattle.std.proofs.Common.{None}
use Rattle.std.proofs.lemmas.Result.{IfOk-weaker}
use Rattle.js_code.specs.Code.{reader}
use Rattle.js_code.specs.Node.{build}
use Rattle.js_code.specs.Part.{as_param, as_params}
use Rattle.js_tree.specs.Plain as P
use Rattle.js_meaning.specs.Meaning as M
use Rattle.js_machine.specs.private.Config.{view_of, name_of, expr_or, plug}
use Rattle.js_machine.specs.private.Weight.{place_weight, node_weight}
use Rattle.js_machine.proofs.OtherNodes as other
use Rattle.js_machine.proofs.Forms.{declared_less, no_name}
use Rattle.js_machine.proofs.Weights.{heavy, lighter}
use Rattle.js_machine.proofs.begin.bind_param.Goals as goal

pub returns-in-Param-clause-means : goal.returns-in-Param-clause-means
returns-in-Param-clause-means c = IfOk-weaker c.begin_param.result _ _ (λ step means p.
    means (view_of p c.args.code.now.nodes) c.in-Param.loc c.in-Param.name_loc
    ∙ ap (plug (view_of p c.args.code.now.nodes) c.args.frames.now.items) (ap (λ n. M.comp_params p (P.more_param (P.MakeParam c.in-Param.loc (P.BindingIdentifier c.in-Param.name_loc n) (expr_or (view_of p c.args.code.now.nodes) c.there.result)) (as_params ((reader c.args.code.now.nodes) c.args.rest))) c.args.env.index (drop c.args.next c.args.arguments))
    (ap name_of (sym c.node.ensures.is ∙ c.in-Param.is))
    ∙ ap (λ e. M.comp_params p (P.more_param (P.MakeParam c.in-Param.loc (P.BindingIdentifier c.in-Param.name_loc c.in-Param.name) e) (as_params ((reader c.args.code.now.nodes) c.args.rest))) c.args.env.index (drop c.args.next c.args.arguments)) (sym (c.there.ensures.expr p))
    ∙ ap (λ x. M.comp_params p (P.more_param (as_param x) (as_params ((reader c.args.code.now.nodes) c.args.rest))) c.args.env.index (drop c.args.next c.args.arguments)) (sym (c.node.ensures.read ∙ ap (build (reader c.args.code.now.nodes)) c.in-Param.is)))) c.begin_param.ensures.means

pub returns-in-Param-clause-less : goal.returns-in-Param-clause-less
returns-in-Param-clause-less c = IfOk-weaker c.begin_param.result _ _ (λ step less.
    omega (arith, less place_weight, declared_less place_weight c.there.result, c.there.ensures.weight, lighter c.args.param c.node.result.now c.node.ensures.below, ap (node_weight place_weight) c.in-Param.is))
    c.begin_param.ensures.less

pub returns-in_default-clause-means : goal.returns-in_default-clause-means
returns-in_default-clause-means c = IfOk-weaker c.begin_param-in_default.result _ _ (λ step means p.
    means (view_of p c.args.code.now.nodes) None None
    ∙ ap (plug (view_of p c.args.code.now.nodes) c.args.frames.now.items) (ap (λ n. M.comp_params p (P.more_param (P.MakeParam None (P.BindingIdentifier None n) P.none_expr) (as_params ((reader c.args.code.now.nodes) c.args.rest))) c.args.env.index (drop c.args.next c.args.arguments)) (no_name c.args.code.now.nodes c.node.ensures.few)
    ∙ ap (λ x. M.comp_params p (P.more_param x (as_params ((reader c.args.code.now.nodes) c.args.rest))) c.args.env.index (drop c.args.next c.args.arguments)) (sym (ap as_param c.node.ensures.read ∙ other.no_param (reader c.args.code.now.nodes) c.node.result.now c.in_default.not-Param)))) c.begin_param-in_default.ensures.means

pub returns-in_default-clause-less : goal.returns-in_default-clause-less
returns-in_default-clause-less c = IfOk-weaker c.begin_param-in_default.result _ _ (λ step less. omega (arith, less place_weight, heavy c.args.param)) c.begin_param-in_default.ensures.less
