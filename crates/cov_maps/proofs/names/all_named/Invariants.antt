-- The constructs that came are out with their names, and their functions are counted.
use Rattle.std.proofs.Common.{◌≡◌, ◌≤◌, length}
use Rattle.js_walk.specs.Constructs.{all_named}
use Rattle.cov_maps.proofs.AllNamed.{numbered}
use Rattle.cov_maps.proofs.names.all_named.Given as goal

abbrev pub invariant-loop-construct : goal.invariant-loop-construct
invariant-loop-construct l =
    (l.named.items ≡ all_named 0 l.yielded) × (l.number ≡ numbered 0 l.yielded) × (l.number ≤ length l.yielded)
