-- The slots of the row that are left stand before those that were put.
use Rattle.std.proofs.Common.{◌≡◌, ◌++◌, length}
use Rattle.js_stack.proofs.left.Left.put.Given as goal

abbrev pub invariant-loop-last : goal.invariant-loop-last
invariant-loop-last l = (l.fn.row ++ l.fn.self ≡ l.row ++ l.self)

abbrev pub decreases-loop-last : goal.decreases-loop-last
decreases-loop-last l = length l.row
