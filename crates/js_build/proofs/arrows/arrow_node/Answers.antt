use Rattle.std.proofs.Common.{Some, ◌∙◌, sym, ap, subst}
use Rattle.js_tree.specs.Tree.{plain_concise_body, plain_params}
use Rattle.js_tree.proofs.Equations.{expr_arrow_function}
use Rattle.js_build.specs.Measures.{measures}
use Rattle.js_build.specs.View.{MakesExpr}
use Rattle.js_build.proofs.ArrowLaws.{last_arrow, bare_arrow}
use Rattle.js_build.proofs.NodeMeasures.{max_same, three_same}
use Rattle.js_build.proofs.arrows.arrow_node.Goals as goal

pub expression-requires : goal.expression-requires
expression-requires c =
    let l = Some c.args.place in
    let ps = plain_params c.args.params.items in
    let b = plain_concise_body c.args.body.tree in
    ap measures (expr_arrow_function c.args.params.items c.args.body.tree l)
    ∙ three_same _ _ _ _ _ _ (max_same _ _ _ _ _ c.max-parts.ensures c.args.params.height_exact c.args.body.height_exact) (last_arrow l 0 ps b ∙ sym c.args.body.last_exact) (bare_arrow l 0 ps b ∙ sym c.args.body.bare_exact)

pub returns : goal.returns
returns c = subst (λ e. MakesExpr c.expression.result 2 e) (expr_arrow_function c.args.params.items c.args.body.tree (Some c.args.place)) c.expression.ensures
