use Rattle.std.proofs.Common.{◌∙◌, sym, ap}
use Rattle.js_tree.specs.Height.{height_template_part}
use Rattle.js_tree.specs.Plain as tree
use Rattle.js_tree.specs.Tree.{plain_expr}
use Rattle.js_build.proofs.TemplateLaws.{part_tree}
use Rattle.js_build.proofs.templates.part_node.Goals as goal

pub invariant_of-result : goal.invariant_of-result
invariant_of-result c = record { height_exact = c.args.value.height_exact ∙ sym (ap height_template_part (part_tree c.into_inner.result c.args.text ∙ ap (λ e. tree.MakeTemplatePart (plain_expr e) c.args.text) c.into_inner.ensures)) }

pub returns : goal.returns
returns c = part_tree c.into_inner.result c.args.text ∙ ap (λ e. tree.MakeTemplatePart (plain_expr e) c.args.text) c.into_inner.ensures
