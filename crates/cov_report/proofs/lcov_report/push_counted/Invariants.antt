-- With what is left, the text is the whole.
use Rattle.std.proofs.Common.{◌≡◌, ◌++◌, drop}
use Rattle.std.specs.List.{flat_map}
use Rattle.cov_report.specs.Lcov.{source_line}
use Rattle.cov_report.proofs.lcov_report.push_counted.Given as goal

abbrev pub invariant-loop-line : goal.invariant-loop-line
invariant-loop-line l =
    l.out.items ++ flat_map source_line (drop l.line-index l.lines) ≡ l.fn.out.items ++ flat_map source_line l.lines
