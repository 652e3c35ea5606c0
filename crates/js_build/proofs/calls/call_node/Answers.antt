use Rattle.std.proofs.Common.{◌∙◌, Some, ap, refl}
use Rattle.js_tree.proofs.Equations.{expr_call}
use Rattle.js_build.specs.Measures.{measures}
use Rattle.js_build.proofs.MadeAs.{makes_expr}
use Rattle.js_build.proofs.NodeMeasures.{all_same, highest_same}
use Rattle.js_build.proofs.calls.call_node.Goals as goal

pub expression-requires : goal.expression-requires
expression-requires c = ap measures (expr_call c.args.callee.tree c.args.list.items (Some c.args.place)) ∙ all_same (highest_same c.max-parts.ensures c.args.callee.height_exact c.args.list.height_exact) refl refl

pub returns : goal.returns
returns c = makes_expr c.expression.result 20 (expr_call c.args.callee.tree c.args.list.items (Some c.args.place)) c.expression.ensures
