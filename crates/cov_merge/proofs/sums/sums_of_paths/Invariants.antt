use Rattle.std.proofs.Common.{◌≡◌, map, take}
use Rattle.cov_merge.proofs.sums.sums_of_paths.Given as goal

abbrev pub invariant-loop-path : goal.invariant-loop-path
invariant-loop-path l = l.sums.items ≡ map (λ path. path.count) (take l.path-index l.paths)
