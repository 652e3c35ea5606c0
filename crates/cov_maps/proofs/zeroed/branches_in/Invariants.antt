-- What is left of the list comes after what is out already.
use Rattle.std.proofs.Common.{◌≡◌, ◌++◌, drop}
use Rattle.cov_maps.specs.Placed.{ArePlaced}
use Rattle.cov_maps.specs.Zero.{zero_branches}
use Rattle.cov_maps.proofs.zeroed.branches_in.Given as goal

abbrev pub invariant-loop-construct : goal.invariant-loop-construct
invariant-loop-construct l =
    (l.branches.items ++ zero_branches (drop l.construct-index l.list) ≡ zero_branches l.list)
    × ArePlaced (drop l.construct-index l.list)
