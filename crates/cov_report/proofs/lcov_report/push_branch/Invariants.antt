-- With what is left, the text is the whole.
use Rattle.std.proofs.Common.{◌≡◌, ◌++◌, drop}
use Rattle.std.specs.List.{flat_map, enumerate_from}
use Rattle.cov_report.specs.Lcov.{path_line}
use Rattle.cov_report.proofs.lcov_report.push_branch.Given as goal

abbrev pub invariant-loop-number : goal.invariant-loop-number
invariant-loop-number l =
    l.out.items ++ flat_map (path_line l.start l.branch.0) (enumerate_from l.number (drop l.number l.paths)) ≡ l.fn.out.items ++ flat_map (path_line l.start l.branch.0) (enumerate_from 0 l.paths)
