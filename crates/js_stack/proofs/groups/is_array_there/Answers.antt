-- The slots that are left are counted.
use Rattle.std.proofs.Common.{arith}
use Rattle.js_stack.proofs.OnStack.{no_slot_is}
use Rattle.js_stack.proofs.groups.is_array_there.Goals as goal

pub returns-then-len-eq0 : goal.returns-then-len-eq0
returns-then-len-eq0 c = grind (arith, no_slot_is)

pub returns-else-len-eq0 : goal.returns-else-len-eq0
returns-else-len-eq0 c = grind (arith, no_slot_is)
