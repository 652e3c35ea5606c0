-- What is left of the list comes after what is out already.
use Rattle.std.proofs.Common.{◌≡◌, ◌++◌, drop}
use Rattle.cov_maps.specs.Placed.{ArePlaced}
use Rattle.cov_maps.specs.Zero.{zero_functions}
use Rattle.cov_maps.proofs.zeroed.functions_in.Given as goal

abbrev pub invariant-loop-construct : goal.invariant-loop-construct
invariant-loop-construct l =
    (l.functions.items ++ zero_functions (drop l.construct-index l.list) ≡ zero_functions l.list)
    × ArePlaced (drop l.construct-index l.list)
