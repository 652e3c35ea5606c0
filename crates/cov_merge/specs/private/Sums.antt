-- Sums that are counts, for private clauses.
use Rattle.std.specs.Prelude.{ℕ, ◌<◌, List, [], ◌∷◌}
use Rattle.cov_merge.specs.Sums.{limit}

-- each of these sums is below 2^53
abbrev pub AreCounts : List ℕ → Type 0
AreCounts [] = Unit {0}
AreCounts (sum ∷ sums) = (sum < limit) × AreCounts sums
