use Rattle.std.proofs.Common.{Some, ◌∙◌, sym}
use Rattle.js_build.proofs.NodeMeasures.{max_same}
use Rattle.js_build.proofs.PropertyNodes.{value_tree, value_high}
use Rattle.js_build.proofs.objects.value_node.Goals as goal

pub invariant_of-result : goal.invariant_of-result
invariant_of-result c = record { height_exact = c.in-Ok.ensures ∙ sym (value_high c.args.key.tree c.args.value.tree (Some c.args.loc) ∙ max_same _ _ _ _ _ c.max.ensures c.args.key.height_exact c.args.value.height_exact) }

pub returns-in-Ok : goal.returns-in-Ok
returns-in-Ok c = value_tree c.args.key.tree c.args.value.tree (Some c.args.loc)
