use Rattle.std.proofs.Common.{◌∙◌, Some, ap, refl}
use Rattle.js_tree.proofs.Equations.{expr_function_expression}
use Rattle.js_build.specs.Measures.{measures}
use Rattle.js_build.proofs.MadeAs.{makes_expr}
use Rattle.js_build.proofs.NodeMeasures.{all_same}
use Rattle.js_build.proofs.functions.expression_node.Goals as goal

pub expression-requires : goal.expression-requires
expression-requires c = ap measures (expr_function_expression c.args.name c.args.function.tree (Some c.args.place)) ∙ all_same (c.args.function.height_exact) refl refl

pub returns : goal.returns
returns c = makes_expr c.expression.result 22 (expr_function_expression c.args.name c.args.function.tree (Some c.args.place)) c.expression.ensures
