-- With those that are left, the totals are those of all.
use Rattle.std.proofs.Common.{◌≡◌, drop}
use Rattle.cov_summary.specs.Sums.{with_branches}
use Rattle.cov_summary.proofs.sums.with_branches.Given as goal

abbrev pub invariant-loop-branch : goal.invariant-loop-branch
invariant-loop-branch l = with_branches l.so_far (drop l.branch-index l.branches) ≡ with_branches l.fn.totals l.branches
