use Rattle.std.proofs.Common.{◌≡◌, length}
use Rattle.js_value.specs.OnData.{place_in}
use Rattle.js_data.proofs.search.place_in.Given as goal

abbrev pub invariant-loop-left : goal.invariant-loop-left
invariant-loop-left l = place_in l.at l.search l.left ≡ place_in l.from l.search l.units

abbrev pub decreases-loop-left : goal.decreases-loop-left
decreases-loop-left l = length l.left
