use Rattle.std.proofs.Common.{IsUtf8, ◌∙◌, subst}
use Rattle.std.proofs.lemmas.Str.{encodes-chars, IsCharBoundary-from_drop}
use Rattle.js_text.proofs.Place.{length-encodes-front, IsCharBoundary-from_front, drop-take-range}
use Rattle.js_text.proofs.cursor.Cursor.slice_since.Goals as goal

pub range-requires-clause-start_le_end : goal.range-requires-clause-start_le_end
range-requires-clause-start_le_end c =
    rw (← c.self.view_is, length-encodes-front _ _ c.self.invariant.within c.self.invariant.front) at c.requires.0

pub range-requires-clause-start_boundary : goal.range-requires-clause-start_boundary
range-requires-clause-start_boundary c = λ _.
    let earlier = rw (← c.self.view_is, length-encodes-front _ _ c.self.invariant.within c.self.invariant.front) at c.requires.0 in
    let boundary = rw (← c.self.view_is, encodes-chars _ c.self.invariant.front) at c.requires in
    IsCharBoundary-from_front _ _ _ c.self.invariant.within (subst IsUtf8 c.self.invariant.rest c.self.invariant.rest_utf8) earlier boundary

pub range-requires-clause-end_boundary : goal.range-requires-clause-end_boundary
range-requires-clause-end_boundary c =
    IsCharBoundary-from_drop _ _ c.self.invariant.within (subst IsUtf8 c.self.invariant.rest c.self.invariant.rest_utf8)

pub returns : goal.returns
returns c =
    let earlier = rw (← c.self.view_is, length-encodes-front _ _ c.self.invariant.within c.self.invariant.front) at c.requires.0 in
    rw (← c.self.view_is, encodes-chars _ c.self.invariant.front)
    (c.range.ensures.value ∙ drop-take-range c.self.inside.text.now c.args.start c.self.inside.offset earlier)
