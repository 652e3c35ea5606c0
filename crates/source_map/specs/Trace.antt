-- What a place in a generated text comes from, and one map after another.
use Rattle.std.specs.Prelude.{ℕ, ◌==◌, ◌&&◌, nat_le, Bool, List, [], slice_get, filter, map, Option, Some, None, option_map, option_and_then}
use Rattle.std.specs.List.{last_or}
use Rattle.source_map.specs.declared.place.Origin.{Origin}
use Rattle.source_map.specs.declared.place.Segment.{Segment}
use Rattle.source_map.specs.declared.place.Traced.{Traced}
use Rattle.source_map.specs.declared.place.Parts.{Parts}

-- the text of a source; none where it is null or past the list
abbrev pub source : Parts → ℕ → Option (List ℕ)
source map number = option_and_then (λ text. text) (slice_get map.sources number)

-- the segments on a line
abbrev pub on_line : ℕ → List Segment → List Segment
on_line line segments = filter (λ segment. segment.line == line) segments

-- whether a segment is on a line, at or before a column, or anywhere on it where the column is the line's end
abbrev pub is_by : ℕ → Option ℕ → Segment → Bool
is_by line None segment = segment.line == line
is_by line (Some column) segment = (segment.line == line) && nat_le segment.column column

-- the last segment there
abbrev pub segment_by : ℕ → Option ℕ → List Segment → Option Segment
segment_by line column segments = last_or None (filter (is_by line column) segments)

-- where a segment comes from, if it has a source that isn't null
abbrev pub traced_to : Parts → Option Origin → Option Traced
traced_to map None = None
traced_to map (Some origin) =
    option_map (λ text. record { source = origin.source; line = origin.line; column = origin.column }) (source map origin.source)

-- what a place comes from: lines count from 1, and no column is the line's end
abbrev pub trace : Parts → ℕ → Option ℕ → Option Traced
trace map line column = option_and_then (λ segment. traced_to map segment.origin) (segment_by line column map.segments)

-- ---- one map after another

-- what the inner map says of a place
abbrev pub trace_again : Parts → Option Traced → Option Traced
trace_again inner None = None
trace_again inner (Some place) = trace inner place.line (Some place.column)

abbrev pub origin_at : Traced → Origin
origin_at place = record { source = place.source; line = place.line; column = place.column; name = None }

-- a segment of the outer map, followed through the inner one
abbrev pub followed : Parts → Parts → Segment → Segment
followed outer inner segment = record {
  line = segment.line;
  column = segment.column;
  origin = option_map origin_at (trace_again inner (traced_to outer segment.origin));
}

-- the outer map and then the inner one
abbrev pub composed : Parts → Parts → Parts
composed outer inner = record { sources = inner.sources; names = []; segments = map (followed outer inner) outer.segments }
