-- All are formed where those that are left are.
use Rattle.std.proofs.Common.{drop}
use Rattle.cov_object.specs.private.Formed.{ArePaths}
use Rattle.cov_object.proofs.formed.look_at_paths.Given as goal

abbrev pub invariant-loop-path : goal.invariant-loop-path
invariant-loop-path l = ArePaths (drop l.path-index l.paths) → ArePaths l.paths
