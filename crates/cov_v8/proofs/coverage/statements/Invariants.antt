use Rattle.std.proofs.Common.{◌≡◌, ℕ, List, map, take, drop}
use Rattle.cov_v8.specs.private.Table.{table}
use Rattle.cov_v8.specs.private.Steps.{Walks, Ascend}
use Rattle.cov_v8.specs.Coverage as spec
use Rattle.cov_v8.proofs.coverage.statements.Given as goal

abbrev pub invariant-loop-line : goal.invariant-loop-line
invariant-loop-line l =
    ((cs : List ℕ) → l.table ≡ table cs → l.all.items ≡ map (spec.statement cs l.ranges) (take l.line-index l.lines))
    × Walks l.ranges l.walk
    × Ascend l.walk.at (drop l.line-index l.lines)
