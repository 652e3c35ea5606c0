use Rattle.std.proofs.Common.{◌≡◌, ◌≤◌, ◌++◌, take, reverse, length}
use Rattle.js_host.proofs.arrays.backward.Given as goal

abbrev pub invariant-loop-left : goal.invariant-loop-left
invariant-loop-left l = record {
  same : l.copies ++ reverse (take l.left l.values) ≡ reverse l.values;
  within : l.left ≤ length l.values;
}

abbrev pub decreases-loop-left : goal.decreases-loop-left
decreases-loop-left l = l.left
