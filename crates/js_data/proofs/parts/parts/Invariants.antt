use Rattle.std.proofs.Common.{◌≡◌, [], ◌++◌, length}
use Rattle.js_value.specs.OnData.{parts_after}
use Rattle.js_data.proofs.parts.parts.Given as goal

abbrev pub invariant-loop-left : goal.invariant-loop-left
invariant-loop-left l = l.parts ++ parts_after 0 l.before.items l.separator l.left ≡ parts_after 0 [] l.separator l.units

abbrev pub decreases-loop-left : goal.decreases-loop-left
decreases-loop-left l = length l.left
