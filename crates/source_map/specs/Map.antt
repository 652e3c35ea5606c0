-- What a source map is: its segments stand by line and column, and their numbers are those of its sources and names.
use Rattle.std.specs.Prelude.{◌&&◌, ◌||◌, ◌==◌, nat_lt, Bool}
use Rattle.source_map.specs.declared.place.Segment.{Segment}

-- whether one segment stands before another
abbrev pub is_before : Segment → Segment → Bool
is_before a b = nat_lt a.line b.line || ((a.line == b.line) && nat_lt a.column b.column)
