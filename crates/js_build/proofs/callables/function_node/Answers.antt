use Rattle.std.proofs.Common.{◌≡◌, ◌∙◌, ap}
use Rattle.js_tree.specs.Height.{height_function}
use Rattle.js_tree.specs.Plain as tree
use Rattle.js_tree.specs.Tree.{plain_function, plain_function_body, plain_params}
use Rattle.js_tree.proofs.Equations.{function_rolled}
use Rattle.js_build.proofs.NodeMeasures.{highest_same}
use Rattle.js_build.proofs.callables.function_node.Goals as goal

pub invariant_of-result : goal.invariant_of-result
invariant_of-result c =
    let made : plain_function c.in_ok-tree.tree ≡ tree.MakeFunction 0 (plain_params c.args.params.items) (plain_function_body c.args.body.tree) = ap plain_function c.in_ok-tree.ensures ∙ function_rolled (record { params = c.args.params.items; body = c.args.body.tree }) in
    record { height_exact = ap height_function made ∙ highest_same c.max-parts.ensures c.args.params.height_exact c.args.body.height_exact }

pub returns : goal.returns
returns c = ap plain_function c.in_ok-tree.ensures ∙ function_rolled (record { params = c.args.params.items; body = c.args.body.tree })
