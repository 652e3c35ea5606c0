-- A segment and what separates it from those before it, for private clauses.
use Rattle.std.specs.Prelude.{ℕ, ◌-◌, ◌==◌, Bool, if◌then◌else◌, List, ◌++◌, replicate}
use Rattle.source_map.specs.declared.place.Segment.{Segment}
use Rattle.source_map.specs.declared.state.State.{State}
use Rattle.source_map.specs.Write.{comma_if, segment_text}

abbrev pub next_text : State → Bool → Segment → List ℕ
next_text from later segment =
    if segment.line == from.line then comma_if later ++ segment_text from segment
    else replicate (segment.line - from.line) 59 ++ segment_text (record from { column = 0 }) segment
