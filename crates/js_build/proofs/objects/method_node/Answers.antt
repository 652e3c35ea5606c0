use Rattle.std.proofs.Common.{Some, ◌∙◌, refl, sym}
use Rattle.js_build.proofs.NodeMeasures.{highest_same}
use Rattle.js_build.proofs.PropertyNodes.{method_tree, method_high}
use Rattle.js_build.proofs.objects.method_node.Goals as goal

pub invariant_of-result : goal.invariant_of-result
invariant_of-result c = record { height_exact = c.in-Ok.ensures ∙ sym (method_high c.args.key.tree c.args.function.tree (Some c.args.loc) ∙ highest_same refl c.args.key.height_exact (sym c.args.function.height_exact)) }

pub returns-in-Ok : goal.returns-in-Ok
returns-in-Ok c = method_tree c.args.key.tree c.args.function.tree (Some c.args.loc)
