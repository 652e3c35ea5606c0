-- Offsets that are no further than a text's end, for private clauses.
use Rattle.std.specs.Prelude.{ℕ, ◌<◌, List}
use Rattle.std.specs.List.{All}
use Rattle.cov_v8.specs.declared.v8.V8Range.{V8Range}
use Rattle.cov_v8.specs.declared.v8.V8Function.{V8Function}

-- of a line both offsets are below a number
abbrev pub IsLine : ℕ → ℕ × ℕ → Type 0
IsLine n line = (line.0 < n) × (line.1 < n)

-- and those of a range
abbrev pub IsInside : ℕ → V8Range → Type 0
IsInside n range = (range.start < n) × (range.end < n)

-- and those of all ranges of some functions
abbrev pub AreInside : ℕ → List V8Function → Type 0
AreInside n functions = All (λ function. All (IsInside n) function.ranges) functions
