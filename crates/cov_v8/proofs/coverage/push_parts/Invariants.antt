use Rattle.std.proofs.Common.{◌≡◌, ◌++◌, ℕ, List, map, take}
use Rattle.cov_v8.specs.private.Table.{table}
use Rattle.cov_v8.specs.Coverage as spec
use Rattle.cov_v8.proofs.coverage.push_parts.Given as goal

abbrev pub invariant-loop-range : goal.invariant-loop-range
invariant-loop-range l =
    (cs : List ℕ) → l.table ≡ table cs → l.all.items ≡ l.initial.all.items ++ map (spec.branch cs) (take l.range-index l.ranges)
