-- The lines that are left in the middle of a text, for private clauses.
use Rattle.std.specs.Prelude.{ℕ, ◌+◌, true, false, List, ◌∷◌, Option, Some, None}
use Rattle.cov_v8.specs.Coverage.{units, line_left, lines_from}

-- where the line's first unit that isn't white space is known, or only white space stands on it so far
abbrev pub pending : Option ℕ → ℕ → List ℕ → List (ℕ × ℕ)
pending None at rest = lines_from at true rest
pending (Some start) at rest = (start, at + units (line_left rest)) ∷ lines_from at false rest
