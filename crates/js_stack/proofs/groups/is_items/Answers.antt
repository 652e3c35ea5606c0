-- The first is told, and whether there are others.
use Rattle.std.proofs.Common.{arith}
use Rattle.js_stack.proofs.PartsLemmas.{no_part_is}
use Rattle.js_stack.proofs.groups.is_items.Goals as goal

pub returns-then-has_items : goal.returns-then-has_items
returns-then-has_items c = grind (arith, no_part_is)

pub returns-else-has_items : goal.returns-else-has_items
returns-else-has_items c = grind (arith, no_part_is)
