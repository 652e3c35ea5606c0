-- What the map of a text says of the places of its marks.
use Rattle.std.specs.Prelude.{◌≡◌, ◌⊎◌, ℕ, ◌-◌, ◌^◌, ◌<◌, ◌==◌, nat_lt, ◌&&◌, ◌||◌, false, List, [], ◌∷◌, ◌++◌, length, Option, Some, option_map}
use Rattle.std.specs.List.{AllByRecursion}
use Rattle.std.specs.Str.{chars}
use Rattle.js_terms.specs.declared.place.Pos.{Pos}
use Rattle.js_tree.specs.Plain.{File}
use Rattle.js_layout.specs.declared.mark.Mark.{Mark}
use Rattle.js_layout.specs.Layout.{layout, marks}
use Rattle.source_map.specs.declared.place.Traced.{Traced}
use Rattle.source_map.specs.Trace.{trace}
use Rattle.printed_map.specs.Marked.{map_of}

-- a place of the only source
abbrev pub traced : Option Pos → Option Traced
traced place = option_map (λ p. record { source = 0; line = p.line; column = p.column }) place

-- one place stands before another
abbrev pub StandsBefore : Pos → Pos → Type 0
StandsBefore one other = (one.line < other.line) ⊎ ((one.line ≡ other.line) × (one.column < other.column))

-- where a mark stands in the text is traced to its place in the source, or to none, if the marks that follow stand after it
abbrev pub LeadsBack : Type 0
LeadsBack = (path : List ℕ) (before after : List Mark) (mark : Mark) → AllByRecursion (λ later. StandsBefore mark.at later.at) after →
    trace (map_of path (before ++ mark ∷ after)) mark.at.line (Some mark.at.column) ≡ traced mark.source

-- ---- the marks of a text stand in order, where its lines are told apart

-- a place doesn't stand before another
abbrev pub NotBefore : Pos → Pos → Type 0
NotBefore one other = (nat_lt one.line other.line || ((one.line == other.line) && nat_lt one.column other.column)) ≡ false

abbrev pub FollowInOrder : Pos → List Mark → Type 0
FollowInOrder last [] = Unit {0}
FollowInOrder last (mark ∷ marks) = NotBefore mark.at last × FollowInOrder mark.at marks

abbrev pub AreInOrder : List Mark → Type 0
AreInOrder [] = Unit {0}
AreInOrder (mark ∷ marks) = FollowInOrder mark.at marks

abbrev pub StandInOrder : Type 0
StandInOrder = (file : File) → length (chars (layout file)) < 2 ^ 32 - 2 → AreInOrder (marks file)
