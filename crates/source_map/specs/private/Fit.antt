-- Segments one after another, for private clauses.
use Rattle.std.specs.Prelude.{◌≡◌, ℕ, false, List, Option, Some, None}
use Rattle.source_map.specs.declared.place.Segment.{Segment}
use Rattle.source_map.specs.Map.{is_before}
use Rattle.source_map.specs.Laws.{AreSegments, AreAfter}

-- a segment doesn't stand before the last one, where there is one
abbrev pub Follows : Option Segment → Segment → Type 0
Follows None segment = Unit {0}
Follows (Some last) segment = is_before segment last ≡ false

-- these may stand after the last one
abbrev pub AreLeft : ℕ → ℕ → Option Segment → List Segment → Type 0
AreLeft sources names None segments = AreSegments sources names segments
AreLeft sources names (Some last) segments = AreAfter sources names last segments
