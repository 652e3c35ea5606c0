-- Segments in the order of the generated text, for private clauses.
use Rattle.std.specs.Prelude.{◌≡◌, ◌+◌, ◌≤◌, false, List, [], ◌∷◌, ◌++◌, length}
use Rattle.std.specs.List.{AllByRecursion}
use Rattle.source_map.specs.declared.place.Segment.{Segment}
use Rattle.source_map.specs.Map.{is_before}

-- none of them stands before one that comes earlier
abbrev pub AreInOrder : List Segment → Type 0
AreInOrder [] = Unit {0}
AreInOrder (segment ∷ segments) = AllByRecursion (λ other. is_before other segment ≡ false) segments × AreInOrder segments

-- the columns of segments on one line don't fall
abbrev pub AreByColumn : List Segment → Type 0
AreByColumn [] = Unit {0}
AreByColumn (segment ∷ segments) = AllByRecursion (λ other. segment.column ≤ other.column) segments × AreByColumn segments

-- a segment with those before and after it, neither of them more than half of all
pub record AreHalves (segments before : List Segment) (middle : Segment) (after : List Segment) : Type 0 where
  pub are : segments ≡ before ++ middle ∷ after
  pub few_before : length before + length before ≤ length segments
  pub few_after : length after + length after ≤ length segments
