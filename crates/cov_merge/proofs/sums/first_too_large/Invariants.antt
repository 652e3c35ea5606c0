use Rattle.std.proofs.Common.{◌≡◌, drop}
use Rattle.cov_merge.specs.Entries.{too_large}
use Rattle.cov_merge.proofs.sums.first_too_large.Given as goal

-- the first sum that is no count is among the rest
abbrev pub invariant-loop-place : goal.invariant-loop-place
invariant-loop-place l = too_large l.place (drop l.place l.sums) ≡ too_large 0 l.sums
