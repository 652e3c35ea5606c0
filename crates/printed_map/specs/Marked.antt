-- The source map of a printed tree: a segment for each of its marks.
use Rattle.std.specs.Prelude.{ℕ, List, [], ◌∷◌, map, Option, Some, None, option_map}
use Rattle.js_terms.specs.declared.place.Pos.{Pos}
use Rattle.js_tree.specs.Plain.{File}
use Rattle.js_layout.specs.declared.mark.Mark.{Mark}
use Rattle.js_layout.specs.Layout.{marks}
use Rattle.source_map.specs.declared.place.Origin.{Origin}
use Rattle.source_map.specs.declared.place.Segment.{Segment}
use Rattle.source_map.specs.declared.place.Parts.{Parts}

-- a place of the source, which is the only one
abbrev pub origin_of : Option Pos → Option Origin
origin_of place = option_map (λ p. record { source = 0; line = p.line; column = p.column; name = None }) place

-- from a mark's place in the text on it comes from the mark's place in the source, or from none
abbrev pub segment_of : Mark → Segment
segment_of mark = record { line = mark.at.line; column = mark.at.column; origin = origin_of mark.source }

abbrev pub map_of : List ℕ → List Mark → Parts
map_of path marks = record { sources = Some path ∷ []; names = []; segments = map segment_of marks }

-- the map of a tree's text, where its places are those of the file at a path
abbrev pub marked : List ℕ → File → Parts
marked path tree = map_of path (marks tree)
