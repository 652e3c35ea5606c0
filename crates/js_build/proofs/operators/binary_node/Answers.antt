use Rattle.std.proofs.Common.{Some, ◌∙◌, sym, ap, subst}
use Rattle.js_tree.specs.Plain as tree
use Rattle.js_tree.specs.Tree.{plain_expr}
use Rattle.js_tree.proofs.Equations.{expr_binary}
use Rattle.js_build.specs.Measures.{measures}
use Rattle.js_build.specs.View.{MakesExpr}
use Rattle.js_build.proofs.Nodes.{bare_binary}
use Rattle.js_build.proofs.NodeMeasures.{bare_same, max_same, three_same}
use Rattle.js_build.proofs.operators.binary_node.Goals as goal

pub expression-requires : goal.expression-requires
expression-requires c =
    let l = Some c.args.place in
    ap measures (expr_binary c.args.operator c.args.left.tree c.args.right.tree l)
    ∙ three_same _ _ _ _ _ _ (max_same _ _ _ _ _ c.max-parts.ensures c.args.left.height_exact c.args.right.height_exact) (sym c.args.right.last_exact) (bare_binary l c.args.operator (plain_expr c.args.left.tree) (plain_expr c.args.right.tree) ∙ bare_same c.args.operator _ _ _ _ _ c.has_bare_in-bare_in.ensures c.args.left.bare_exact c.args.right.bare_exact)

pub returns : goal.returns
returns c = subst (λ i. MakesExpr c.expression.result i (tree.Binary (Some c.args.place) c.args.operator (plain_expr c.args.left.tree) (plain_expr c.args.right.tree))) c.binary_level.ensures
    (subst (λ e. MakesExpr c.expression.result c.binary_level.result e) (expr_binary c.args.operator c.args.left.tree c.args.right.tree (Some c.args.place)) c.expression.ensures)
