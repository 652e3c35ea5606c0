-- What a reader expects of the counts, as laws of the definitions.
use Rattle.std.specs.Prelude.{◌≡◌, ℕ, ◌<◌, ◌≤◌, true, false, List, ◌∷◌, ◌++◌}
use Rattle.std.specs.List.{All}
use Rattle.cov_v8.specs.declared.v8.V8Range.{V8Range}
use Rattle.cov_v8.specs.Coverage.{holds, size, count_at}

-- where no range holds the unit it never ran
abbrev pub IsZeroOutside : Type 0
IsZeroOutside = (at : ℕ) (ranges : List V8Range) → All (λ range. holds at range ≡ false) ranges → count_at ranges at ≡ 0

-- a range that holds it, where none before that holds it is shorter and each later one that holds it is longer, tells how often it ran
abbrev pub IsShortest : Type 0
IsShortest = (at : ℕ) (before : List V8Range) (range : V8Range) (later : List V8Range) → holds at range ≡ true
    → All (λ other. holds at other ≡ true → size range ≤ size other) before
    → All (λ other. holds at other ≡ true → size range < size other) later
    → count_at (before ++ range ∷ later) at ≡ range.count
