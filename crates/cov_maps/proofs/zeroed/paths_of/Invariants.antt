-- What is left of the places comes after what is out already.
use Rattle.std.proofs.Common.{◌≡◌, ◌++◌, map, drop}
use Rattle.cov_maps.specs.Placed.{ArePathsPlaced}
use Rattle.cov_maps.specs.Zero.{zero_path}
use Rattle.cov_maps.proofs.zeroed.paths_of.Given as goal

abbrev pub invariant-loop-place : goal.invariant-loop-place
invariant-loop-place l =
    (l.paths ++ map zero_path (drop l.place-index l.places) ≡ map zero_path l.places)
    × ArePathsPlaced (drop l.place-index l.places)
