use Rattle.std.proofs.Common.{◌∙◌, Some, ap, refl}
use Rattle.js_tree.proofs.Equations.{expr_object_literal}
use Rattle.js_build.specs.Measures.{measures}
use Rattle.js_build.proofs.MadeAs.{makes_expr}
use Rattle.js_build.proofs.NodeMeasures.{all_same, one_same}
use Rattle.js_build.proofs.objects.object_node.Goals as goal

pub expression-requires : goal.expression-requires
expression-requires c = ap measures (expr_object_literal c.args.properties.items (Some c.args.place)) ∙ all_same (one_same c.args.properties.height_exact) refl refl

pub returns : goal.returns
returns c = makes_expr c.expression.result 22 (expr_object_literal c.args.properties.items (Some c.args.place)) c.expression.ensures
