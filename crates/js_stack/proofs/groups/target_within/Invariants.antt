-- What is in the parentheses is a target where all is.
use Rattle.std.proofs.Common.{◌≡◌}
use Rattle.js_tree.specs.Tree.{plain_expr}
use Rattle.js_tree.specs.Height.{height_expr}
use Rattle.js_stack.specs.Groups.{target_within}
use Rattle.js_stack.proofs.groups.target_within.Given as goal

abbrev pub invariant-loop-inner : goal.invariant-loop-inner
invariant-loop-inner l = target_within (plain_expr l.inner) ≡ target_within (plain_expr l.expression)

abbrev pub decreases-loop-inner : goal.decreases-loop-inner
decreases-loop-inner l = height_expr (plain_expr l.inner)
