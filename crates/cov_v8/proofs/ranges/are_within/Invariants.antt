use Rattle.std.proofs.Common.{◌≡◌, drop}
use Rattle.std.specs.List.{list_all}
use Rattle.cov_v8.specs.Coverage as spec
use Rattle.cov_v8.proofs.ranges.are_within.Given as goal

abbrev pub invariant-loop-range : goal.invariant-loop-range
invariant-loop-range l = list_all (spec.is_within l.units) (drop l.range-index l.ranges) ≡ list_all (spec.is_within l.units) l.ranges
