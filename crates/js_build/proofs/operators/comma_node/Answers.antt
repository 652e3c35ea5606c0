use Rattle.std.proofs.Common.{Some, ◌∙◌, sym, ap, subst}
use Rattle.js_tree.proofs.Equations.{expr_comma}
use Rattle.js_build.specs.Measures.{measures}
use Rattle.js_build.specs.View.{MakesExpr}
use Rattle.js_build.proofs.NodeMeasures.{max_same, or_same, three_same}
use Rattle.js_build.proofs.operators.comma_node.Goals as goal

pub expression-requires : goal.expression-requires
expression-requires c = ap measures (expr_comma c.args.left.tree c.args.right.tree (Some c.args.place))
    ∙ three_same _ _ _ _ _ _ (max_same _ _ _ _ _ c.max-parts.ensures c.args.left.height_exact c.args.right.height_exact) (sym c.args.right.last_exact) (or_same _ _ _ _ c.args.left.bare_exact c.args.right.bare_exact)

pub returns : goal.returns
returns c = subst (λ e. MakesExpr c.expression.result 1 e) (expr_comma c.args.left.tree c.args.right.tree (Some c.args.place)) c.expression.ensures
