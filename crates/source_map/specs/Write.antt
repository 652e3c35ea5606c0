-- The text of a source map, with no space.
use Rattle.std.specs.Prelude.{ℕ, ◌-◌, ◌==◌, Bool, true, false, if◌then◌else◌, List, [], ◌∷◌, ◌++◌, replicate, map, Option, Some, None, codes}
use Rattle.serde_json.specs.Data.{Data, null, number, unsigned, string, array, object, no_members, member}
use Rattle.serde_json.specs.Written.{compact_text}
use Rattle.serde_json.specs.View.{items_of}
use Rattle.source_map.specs.declared.place.Origin.{Origin}
use Rattle.source_map.specs.declared.place.Segment.{Segment}
use Rattle.source_map.specs.declared.place.Parts.{Parts}
use Rattle.source_map.specs.Vlq.{byte_of, digits_from, signed}
use Rattle.source_map.specs.declared.state.State.{State}
use Rattle.source_map.specs.Mappings.{start}

-- ---- mappings

-- a value after the last one, in the fewest digits: a difference has at most 34 bits
abbrev pub value_text : ℕ → ℕ → List ℕ
value_text last value = map byte_of (digits_from 6 (signed last value))

-- what a segment's origin adds to its column
abbrev pub name_text : State → Option ℕ → List ℕ
name_text from None = []
name_text from (Some name) = value_text from.name name

abbrev pub origin_text : State → Option Origin → List ℕ
origin_text from None = []
origin_text from (Some origin) =
    value_text from.source origin.source
    ++ (value_text from.source_line (origin.line - 1) ++ (value_text from.source_column origin.column ++ name_text from origin.name))

abbrev pub segment_text : State → Segment → List ℕ
segment_text from segment = value_text from.column segment.column ++ origin_text from segment.origin

-- the last value of each number after a segment
abbrev pub name_or : ℕ → Option ℕ → ℕ
name_or last None = last
name_or last (Some name) = name

abbrev pub after_origin : State → Segment → Option Origin → State
after_origin from segment None = record from { line = segment.line; column = segment.column }
after_origin from segment (Some origin) = record {
  line = segment.line;
  column = segment.column;
  source = origin.source;
  source_line = origin.line - 1;
  source_column = origin.column;
  name = name_or from.name origin.name;
}

-- a segment on the line of the one before stands after a comma; else its line's end stands before it, and the column begins anew
abbrev pub comma_if : Bool → List ℕ
comma_if later = if later then 44 ∷ [] else []

abbrev pub mappings_from : State → Bool → List Segment → List ℕ
mappings_from from later [] = []
mappings_from from later (segment ∷ segments) =
    (if segment.line == from.line then comma_if later ++ segment_text from segment
    else replicate (segment.line - from.line) 59 ++ segment_text (record from { column = 0 }) segment)
    ++ mappings_from (after_origin from segment segment.origin) true segments

abbrev pub mappings_text : List Segment → List ℕ
mappings_text segments = mappings_from start false segments

-- ---- the whole

abbrev pub source_data : Option (List ℕ) → Data
source_data None = null
source_data (Some text) = string text

abbrev pub map_data : Parts → Data
map_data parts = object (
    member (codes "mappings") (string (mappings_text parts.segments))
    (member (codes "names") (array (items_of (map (λ text. string text) parts.names)))
    (member (codes "sources") (array (items_of (map source_data parts.sources)))
    (member (codes "version") (number (unsigned 3)) no_members))))

abbrev pub map_text : Parts → List ℕ
map_text parts = compact_text (map_data parts)
