use Rattle.std.proofs.Common.{◌∙◌, Some, ap, refl}
use Rattle.js_tree.proofs.Equations.{expr_template_literal}
use Rattle.js_build.specs.Measures.{measures}
use Rattle.js_build.proofs.MadeAs.{makes_expr}
use Rattle.js_build.proofs.NodeMeasures.{all_same, one_same}
use Rattle.js_build.proofs.templates.template_node.Goals as goal

pub expression-requires : goal.expression-requires
expression-requires c = ap measures (expr_template_literal c.args.first c.args.parts.items (Some c.args.place)) ∙ all_same (one_same c.args.parts.height_exact) refl refl

pub returns : goal.returns
returns c = makes_expr c.expression.result 22 (expr_template_literal c.args.first c.args.parts.items (Some c.args.place)) c.expression.ensures
