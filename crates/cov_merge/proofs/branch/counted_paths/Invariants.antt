use Rattle.std.proofs.Common.{◌≡◌, ◌++◌, drop}
use Rattle.cov_merge.specs.Kinds.{paths_with}
use Rattle.cov_merge.specs.private.Sums.{AreCounts}
use Rattle.cov_merge.proofs.branch.counted_paths.Given as goal

-- with those that are left, the paths are all
abbrev pub invariant-loop-path : goal.invariant-loop-path
invariant-loop-path l = record {
  counts : AreCounts l.rest;
  all : l.counted.items ++ paths_with (drop l.path-index l.paths) l.rest ≡ paths_with l.paths l.sums;
}
