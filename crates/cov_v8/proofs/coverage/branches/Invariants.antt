use Rattle.std.proofs.Common.{◌≡◌, ◌++◌, ℕ, List, drop}
use Rattle.cov_v8.specs.private.Table.{table}
use Rattle.cov_v8.specs.Coverage as spec
use Rattle.cov_v8.proofs.coverage.branches.Given as goal

abbrev pub invariant-loop-function : goal.invariant-loop-function
invariant-loop-function l =
    (cs : List ℕ) → l.table ≡ table cs → l.all.items ++ spec.branches cs (drop l.function-index l.functions) ≡ spec.branches cs l.functions
