-- With what is left, the text is the whole.
use Rattle.std.proofs.Common.{◌≡◌, ◌++◌, drop}
use Rattle.std.specs.List.{flat_map}
use Rattle.cov_report.specs.Lcov.{function_line}
use Rattle.cov_report.proofs.lcov_report.push_declarations.Given as goal

abbrev pub invariant-loop-function : goal.invariant-loop-function
invariant-loop-function l =
    l.out.items ++ flat_map function_line (drop l.function-index l.functions) ≡ l.fn.out.items ++ flat_map function_line l.functions
