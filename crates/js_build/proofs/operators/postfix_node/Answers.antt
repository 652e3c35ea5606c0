use Rattle.std.proofs.Common.{◌∙◌, Some, ap, refl}
use Rattle.js_tree.proofs.Equations.{expr_postfix_update}
use Rattle.js_build.specs.Measures.{measures}
use Rattle.js_build.proofs.MadeAs.{makes_expr}
use Rattle.js_build.proofs.NodeMeasures.{all_same, one_same}
use Rattle.js_build.proofs.operators.postfix_node.Goals as goal

pub expression-requires : goal.expression-requires
expression-requires c = ap measures (expr_postfix_update c.args.operator c.args.operand.tree (Some c.args.place)) ∙ all_same (one_same c.args.operand.height_exact) refl refl

pub returns : goal.returns
returns c = makes_expr c.expression.result 17 (expr_postfix_update c.args.operator c.args.operand.tree (Some c.args.place)) c.expression.ensures
