-- The first is told, and whether there are others.
use Rattle.std.proofs.Common.{arith}
use Rattle.js_stack.proofs.GroupLemmas.{no_exprs_is}
use Rattle.js_stack.proofs.groups.sole_target.Goals as goal

pub returns-then-is_empty : goal.returns-then-is_empty
returns-then-is_empty c = grind (arith, no_exprs_is)

pub returns-else-is_empty : goal.returns-else-is_empty
returns-else-is_empty c = grind (arith, no_exprs_is)
