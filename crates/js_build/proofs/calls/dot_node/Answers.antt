use Rattle.std.proofs.Common.{◌∙◌, Some, ap, refl, subst}
use Rattle.js_tree.specs.Plain as tree
use Rattle.js_tree.specs.Tree.{plain_expr}
use Rattle.js_tree.proofs.Equations.{expr_named_member}
use Rattle.js_build.specs.Measures.{measures}
use Rattle.js_build.specs.View.{MakesExpr}
use Rattle.js_build.proofs.MadeAs.{makes_expr}
use Rattle.js_build.proofs.NodeMeasures.{all_same, one_same}
use Rattle.js_build.proofs.calls.dot_node.Goals as goal

pub expression-requires : goal.expression-requires
expression-requires c = ap measures (expr_named_member c.args.object.tree c.args.name (Some c.args.place)) ∙ all_same (one_same c.args.object.height_exact) refl refl

pub returns : goal.returns
returns c = subst (λ i. MakesExpr c.expression.result i (tree.NamedMember (Some c.args.place) (plain_expr c.args.object.tree) c.args.name)) c.member_level-level.ensures (makes_expr c.expression.result c.member_level-level.result (expr_named_member c.args.object.tree c.args.name (Some c.args.place)) c.expression.ensures)
