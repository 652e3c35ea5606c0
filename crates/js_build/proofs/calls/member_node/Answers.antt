use Rattle.std.proofs.Common.{◌∙◌, Some, ap, refl, subst}
use Rattle.js_tree.specs.Plain as tree
use Rattle.js_tree.specs.Tree.{plain_expr}
use Rattle.js_tree.proofs.Equations.{expr_computed_member}
use Rattle.js_build.specs.Measures.{measures}
use Rattle.js_build.specs.View.{MakesExpr}
use Rattle.js_build.proofs.MadeAs.{makes_expr}
use Rattle.js_build.proofs.NodeMeasures.{all_same, highest_same}
use Rattle.js_build.proofs.calls.member_node.Goals as goal

pub expression-requires : goal.expression-requires
expression-requires c = ap measures (expr_computed_member c.args.object.tree c.args.key.tree (Some c.args.place)) ∙ all_same (highest_same c.max-parts.ensures c.args.object.height_exact c.args.key.height_exact) refl refl

pub returns : goal.returns
returns c = subst (λ i. MakesExpr c.expression.result i (tree.ComputedMember (Some c.args.place) (plain_expr c.args.object.tree) (plain_expr c.args.key.tree))) c.member_level-level.ensures (makes_expr c.expression.result c.member_level-level.result (expr_computed_member c.args.object.tree c.args.key.tree (Some c.args.place)) c.expression.ensures)
