-- With what is left, the text is the whole.
use Rattle.std.proofs.Common.{◌≡◌, ◌++◌, drop}
use Rattle.std.specs.List.{flat_map}
use Rattle.cov_report.specs.Lcov.{function_count_line}
use Rattle.cov_report.proofs.lcov_report.push_entries.Given as goal

abbrev pub invariant-loop-function : goal.invariant-loop-function
invariant-loop-function l =
    l.out.items ++ flat_map function_count_line (drop l.function-index l.functions) ≡ l.fn.out.items ++ flat_map function_count_line l.functions
