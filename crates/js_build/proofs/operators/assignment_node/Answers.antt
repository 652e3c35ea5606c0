use Rattle.std.proofs.Common.{◌∙◌, Some, ap, sym}
use Rattle.js_tree.proofs.Equations.{expr_assignment}
use Rattle.js_build.specs.Measures.{measures}
use Rattle.js_build.proofs.MadeAs.{makes_expr}
use Rattle.js_build.proofs.NodeMeasures.{all_same, highest_same}
use Rattle.js_build.proofs.operators.assignment_node.Goals as goal

pub expression-requires : goal.expression-requires
expression-requires c = ap measures (expr_assignment c.args.operator c.args.target.tree c.args.value.tree (Some c.args.place)) ∙ all_same (highest_same c.max-parts.ensures c.args.target.height_exact c.args.value.height_exact) (sym c.args.value.last_exact) (sym c.args.value.bare_exact)

pub returns : goal.returns
returns c = makes_expr c.expression.result 2 (expr_assignment c.args.operator c.args.target.tree c.args.value.tree (Some c.args.place)) c.expression.ensures
