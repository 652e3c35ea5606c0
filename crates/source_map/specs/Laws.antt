-- Laws on source maps.
use Rattle.std.specs.Prelude.{◌≡◌, ℕ, ◌^◌, ◌<◌, ◌≤◌, min, false, List, [], ◌∷◌, length, Option, IfSome, Ok}
use Rattle.source_map.specs.declared.place.Origin.{Origin}
use Rattle.source_map.specs.declared.place.Segment.{Segment}
use Rattle.source_map.specs.declared.place.Parts.{Parts}
use Rattle.source_map.specs.Map.{is_before}
use Rattle.source_map.specs.Read.{map_of, source_map_of}
use Rattle.source_map.specs.Trace.{trace, trace_again, composed}
use Rattle.source_map.specs.Write.{map_data}

-- one map after another traces as one after another
abbrev pub IsComposed : Type 0
IsComposed = (outer inner : Parts) (line : ℕ) (column : Option ℕ) → trace (composed outer inner) line column ≡ trace_again inner (trace outer line column)

-- ---- what every map that is read has: numbers in range, and segments in order

pub record FitsOrigin (sources names : ℕ) (origin : Origin) : Type 0 where
  pub source : origin.source < min sources (2 ^ 32)
  pub from_one : 1 ≤ origin.line
  pub line : origin.line < 2 ^ 32
  pub column : origin.column < 2 ^ 32
  pub name : IfSome origin.name (λ name. name < min names (2 ^ 32))

pub record FitsSegment (sources names : ℕ) (segment : Segment) : Type 0 where
  pub from_one : 1 ≤ segment.line
  pub column : segment.column < 2 ^ 32
  pub origin : IfSome segment.origin (FitsOrigin sources names)

-- each fits, and none stands before the one before it
abbrev pub AreAfter : ℕ → ℕ → Segment → List Segment → Type 0
AreAfter sources names last [] = Unit {0}
AreAfter sources names last (segment ∷ segments) = (is_before segment last ≡ false) × FitsSegment sources names segment × AreAfter sources names segment segments

abbrev pub AreSegments : ℕ → ℕ → List Segment → Type 0
AreSegments sources names [] = Unit {0}
AreSegments sources names (segment ∷ segments) = FitsSegment sources names segment × AreAfter sources names segment segments

abbrev pub IsMap : Parts → Type 0
IsMap map = AreSegments (length map.sources) (length map.names) map.segments

-- what is written of such a map is read back to it
abbrev pub IsReadBack : Type 0
IsReadBack = (map : Parts) → IsMap map → map_of (map_data map) ≡ Ok map

-- and each map that is read is such a one, as is one map after another
abbrev pub IsFit : Type 0
IsFit = (most : ℕ) (bytes : List ℕ) (map : Parts) → source_map_of most bytes ≡ Ok map → IsMap map

abbrev pub IsComposedFit : Type 0
IsComposedFit = (outer inner : Parts) → IsMap outer → IsMap inner → IsMap (composed outer inner)
