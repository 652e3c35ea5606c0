-- The last end so far stands before the paths that are left.
use Rattle.std.proofs.Common.{◌≡◌, drop}
use Rattle.cov_object.specs.Read as spec
use Rattle.cov_object.proofs.entry.last_end.Given as goal

abbrev pub invariant-loop-path : goal.invariant-loop-path
invariant-loop-path l = spec.last_end l.last (drop l.path-index l.paths) ≡ spec.last_end l.fn.end l.paths
