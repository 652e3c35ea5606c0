-- The shortest range at each offset, as steps, for private clauses.
use Rattle.std.specs.Prelude.{◌≡◌, ℕ, nat_le, Bool, true, false, if◌then◌else◌, List, [], ◌∷◌, ◌≤◌, Option, None}
use Rattle.cov_v8.specs.declared.v8.V8Range.{V8Range}
use Rattle.cov_v8.specs.declared.steps.Step.{Step}
use Rattle.cov_v8.specs.declared.steps.Merge.{Merge}
use Rattle.cov_v8.specs.declared.walk.Walk.{Walk}
use Rattle.cov_v8.specs.Coverage.{shorter, shortest}

-- the range at an offset: the last step's that isn't after it, or the one before all steps
abbrev pub value_at : Option V8Range → List Step → ℕ → Option V8Range
value_at before [] at = before
value_at before (step ∷ steps) at = if nat_le step.from at then value_at step.range steps at else before

-- these steps tell the shorter of what the two lists tell
abbrev pub Tells : List Step → List Step → List Step → Type 0
Tells all first later = (at : ℕ) → value_at None all at ≡ shorter (value_at None first at) (value_at None later at)

-- and at this offset of what is left of them
abbrev pub Meets : Merge → List Step → ℕ → Type 0
Meets merge more at =
    value_at (shorter merge.left merge.right) more at ≡ shorter (value_at merge.left merge.first.now at) (value_at merge.right merge.later.now at)

-- the next step is one of the first list
abbrev pub starts_first : List Step → List Step → Bool
starts_first [] later = false
starts_first (step ∷ first) [] = true
starts_first (step ∷ first) (other ∷ later) = nat_le step.from other.from

-- the steps of some ranges
abbrev pub AreSteps : List V8Range → List Step → Type 0
AreSteps ranges steps = (at : ℕ) → value_at None steps at ≡ shortest at ranges

-- from where a walk stands on, it tells the shortest of some ranges
abbrev pub Walks : List V8Range → Walk → Type 0
Walks ranges walk = (at : ℕ) → walk.at ≤ at → value_at walk.found walk.rest.now at ≡ shortest at ranges

-- the first units of lines, each at this offset or after it and none before an earlier one
abbrev pub Ascend : ℕ → List (ℕ × ℕ) → Type 0
Ascend low [] = Unit {0}
Ascend low (line ∷ rest) = (low ≤ line.0) × Ascend line.0 rest
