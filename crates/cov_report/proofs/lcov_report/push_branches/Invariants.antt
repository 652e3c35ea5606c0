-- With what is left, the text is the whole.
use Rattle.std.proofs.Common.{◌≡◌, ◌++◌, drop}
use Rattle.std.specs.List.{flat_map}
use Rattle.cov_report.specs.Lcov.{branch_lines}
use Rattle.cov_report.proofs.lcov_report.push_branches.Given as goal

abbrev pub invariant-loop-branch : goal.invariant-loop-branch
invariant-loop-branch l =
    l.out.items ++ flat_map branch_lines (drop l.branch-index l.branches) ≡ l.fn.out.items ++ flat_map branch_lines l.branches
