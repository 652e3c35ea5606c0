-- The paths that were counted, before those that are left, are all.
use Rattle.std.proofs.Common.{◌≡◌, drop}
use Rattle.cov_object.specs.private.ByMember.{paths_with}
use Rattle.cov_object.proofs.ReadLemmas.{before}
use Rattle.cov_object.proofs.described.paths_counted.Given as goal

abbrev pub invariant-loop-place : goal.invariant-loop-place
invariant-loop-place l =
    before l.counted.items (paths_with l.place (drop l.place l.paths) (drop l.place l.counts)) ≡ paths_with 0 l.paths l.counts
