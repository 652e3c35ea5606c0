use Rattle.std.proofs.Common.{◌≡◌, ◌+◌, ◌++◌, ℕ, List, length, None}
use Rattle.cov_v8.specs.declared.steps.Step.{Step}
use Rattle.cov_v8.specs.Coverage.{shorter}
use Rattle.cov_v8.specs.private.Steps.{Meets, value_at}
use Rattle.cov_v8.proofs.steps.merged.Given as goal

abbrev pub invariant-next : goal.invariant-next
invariant-next l = (at : ℕ) (more : List Step) → Meets l.merge more at
    → value_at None (l.all.items ++ more) at ≡ shorter (value_at None l.initial.merge.first.now at) (value_at None l.initial.merge.later.now at)

abbrev pub decreases-next : goal.decreases-next
decreases-next l = length l.merge.first.now + length l.merge.later.now
