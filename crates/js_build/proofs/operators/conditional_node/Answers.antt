use Rattle.std.proofs.Common.{Some, ◌∙◌, sym, ap, subst}
use Rattle.js_tree.proofs.Equations.{expr_conditional}
use Rattle.js_build.specs.Measures.{measures}
use Rattle.js_build.specs.View.{MakesExpr}
use Rattle.js_build.proofs.NodeMeasures.{max_three_same, or_same, three_same}
use Rattle.js_build.proofs.operators.conditional_node.Goals as goal

pub expression-requires : goal.expression-requires
expression-requires c = ap measures (expr_conditional c.args.test.tree c.args.then.tree c.args.otherwise.tree (Some c.args.place))
    ∙ three_same _ _ _ _ _ _ (max_three_same _ _ _ _ _ _ _ _ c.max-parts.ensures c.max.ensures c.args.test.height_exact c.args.then.height_exact c.args.otherwise.height_exact) (sym c.args.otherwise.last_exact) (or_same _ _ _ _ c.args.test.bare_exact c.args.otherwise.bare_exact)

pub returns : goal.returns
returns c = subst (λ e. MakesExpr c.expression.result 3 e) (expr_conditional c.args.test.tree c.args.then.tree c.args.otherwise.tree (Some c.args.place)) c.expression.ensures
