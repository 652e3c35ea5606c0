use Rattle.std.proofs.Common.{◌≡◌, ◌≤◌, ℕ, length}
use Rattle.cov_v8.specs.private.Steps.{value_at}
use Rattle.cov_v8.proofs.walk.Walk.count_at.Given as goal

abbrev pub invariant-steps : goal.invariant-steps
invariant-steps l = (u : ℕ) → l.at ≤ u → value_at l.self.found l.self.rest.now u ≡ value_at l.initial.self.found l.initial.self.rest.now u

abbrev pub decreases-steps : goal.decreases-steps
decreases-steps l = length l.self.rest.now
