-- The last segment at or before a mark's place is the mark's own.
use Rattle.std.proofs.Common.{◌≡◌, inl, inr, ℕ, ◌==◌, ◌&&◌, nat_le, Bool, true, false, cond, List, [], ◌∷◌, ◌++◌, map, Option, Some, None, refl, ap, ◌∙◌, arith}
use Rattle.std.proofs.lemmas.Bool.Decides.{nat_tests}
use Rattle.std.specs.Option.{option_and_then}
use Rattle.std.specs.List.{AllByRecursion, filter, last_or}
use Rattle.std.proofs.lemmas.List.Elements.{filter-append}
use Rattle.js_terms.specs.declared.place.Pos.{Pos}
use Rattle.js_layout.specs.declared.mark.Mark.{Mark}
use Rattle.source_map.specs.declared.place.Segment.{Segment}
use Rattle.source_map.specs.Trace.{is_by, segment_by, traced_to}
use Rattle.printed_map.specs.Marked.{map_of, origin_of, segment_of}
use Rattle.printed_map.specs.Laws.{LeadsBack, StandsBefore, traced}

abbrev by : Mark → Segment → Bool
by mark = is_by mark.at.line (Some mark.at.column)

itself : (line column : ℕ) → ((line == line) && nat_le column column) ≡ true
itself line column = grind (arith, nat_tests)

later_by : (one other : Pos) → StandsBefore one other → ((other.line == one.line) && nat_le other.column one.column) ≡ false
later_by one other (inl below) = grind (arith, nat_tests)
later_by one other (inr after) = let same = after.0 in let below = after.1 in grind (arith, nat_tests)

none_later : (mark : Mark) (after : List Mark) → AllByRecursion (λ later. StandsBefore mark.at later.at) after → filter (by mark) (map segment_of after) ≡ []
none_later mark [] all = refl
none_later mark (other ∷ after) all =
    ap (λ b. cond b (segment_of other ∷ filter (by mark) (map segment_of after)) (filter (by mark) (map segment_of after))) (later_by mark.at other.at all.0) ∙ none_later mark after all.1

from_mark : (mark : Mark) (after : List Mark) → AllByRecursion (λ later. StandsBefore mark.at later.at) after → filter (by mark) (map segment_of (mark ∷ after)) ≡ segment_of mark ∷ []
from_mark mark after all =
    ap (λ b. cond b (segment_of mark ∷ filter (by mark) (map segment_of after)) (filter (by mark) (map segment_of after))) (itself mark.at.line mark.at.column)
    ∙ ap (λ rest. segment_of mark ∷ rest) (none_later mark after all)

last_is : (start : Option Segment) (segments : List Segment) (last : Segment) → last_or start (segments ++ last ∷ []) ≡ Some last
last_is start [] last = refl
last_is start (first ∷ segments) last = last_is (Some first) segments last

mapped_both : (before after : List Mark) → map segment_of (before ++ after) ≡ map segment_of before ++ map segment_of after
mapped_both [] after = refl
mapped_both (mark ∷ before) after = ap (λ rest. segment_of mark ∷ rest) (mapped_both before after)

found : (before after : List Mark) (mark : Mark) → AllByRecursion (λ later. StandsBefore mark.at later.at) after →
    segment_by mark.at.line (Some mark.at.column) (map segment_of (before ++ mark ∷ after)) ≡ Some (segment_of mark)
found before after mark all =
    ap (λ segments. last_or None (filter (by mark) segments)) (mapped_both before (mark ∷ after))
    ∙ ap (last_or None) (filter-append (by mark) (map segment_of before) (map segment_of (mark ∷ after)))
    ∙ ap (λ rest. last_or None (filter (by mark) (map segment_of before) ++ rest)) (from_mark mark after all)
    ∙ last_is None (filter (by mark) (map segment_of before)) (segment_of mark)

origin_traced : (path : List ℕ) (marks : List Mark) (place : Option Pos) → traced_to (map_of path marks) (origin_of place) ≡ traced place
origin_traced path marks None = refl
origin_traced path marks (Some p) = refl

pub leads_back : LeadsBack
leads_back path before after mark all =
    ap (λ segment. option_and_then (λ s. traced_to (map_of path (before ++ mark ∷ after)) s.origin) segment) (found before after mark all)
    ∙ origin_traced path (before ++ mark ∷ after) mark.source
