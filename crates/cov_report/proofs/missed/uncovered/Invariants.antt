-- With those of the lines that are left, they are all.
use Rattle.std.proofs.Common.{◌≡◌, ◌++◌, drop}
use Rattle.cov_report.specs.Table.{uncovered}
use Rattle.cov_report.proofs.missed.uncovered.Given as goal

abbrev pub invariant-loop-line : goal.invariant-loop-line
invariant-loop-line l = l.numbers.items ++ uncovered (drop l.line-index l.lines) ≡ uncovered l.lines
