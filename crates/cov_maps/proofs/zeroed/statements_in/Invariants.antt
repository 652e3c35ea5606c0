-- What is left of the list comes after what is out already.
use Rattle.std.proofs.Common.{◌≡◌, ◌++◌, drop}
use Rattle.cov_maps.specs.Placed.{ArePlaced}
use Rattle.cov_maps.specs.Zero.{zero_statements}
use Rattle.cov_maps.proofs.zeroed.statements_in.Given as goal

abbrev pub invariant-loop-construct : goal.invariant-loop-construct
invariant-loop-construct l =
    (l.statements.items ++ zero_statements (drop l.construct-index l.list) ≡ zero_statements l.list)
    × ArePlaced (drop l.construct-index l.list)
