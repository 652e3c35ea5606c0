use Rattle.std.proofs.Common.{◌≡◌, map, take}
use Rattle.cov_merge.proofs.branch.path_locations.Given as goal

abbrev pub invariant-loop-path : goal.invariant-loop-path
invariant-loop-path l = l.locations ≡ map (λ path. path.location) (take l.path-index l.paths)
