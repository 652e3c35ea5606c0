use Rattle.std.proofs.Common.{◌≡◌, ◌++◌, drop}
use Rattle.std.specs.List.{All}
use Rattle.cov_v8.specs.Form.{IsRange}
use Rattle.cov_v8.specs.Coverage as spec
use Rattle.cov_v8.proofs.ranges.all_ranges.Given as goal

abbrev pub invariant-loop-function : goal.invariant-loop-function
invariant-loop-function l =
    (l.ranges.items ++ spec.all_ranges (drop l.function-index l.functions) ≡ spec.all_ranges l.functions)
    × All IsRange l.ranges.items
