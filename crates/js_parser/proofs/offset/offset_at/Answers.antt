use Rattle.std.proofs.Common.{◌++◌, chars, ap, sym, ◌∙◌, arith}
use Rattle.js_parser.proofs.Offsets.{at_start, at_end, passed, over}
use Rattle.js_parser.proofs.offset.offset_at.Goals as goal

pub places-init : goal.places-init
places-init c = (ap (λ b. b ++ c.new-cursor.result.after) c.new-cursor.ensures.before ∙ c.new-cursor.ensures.after, at_start (chars c.args.text.now) c.args.position c.new-cursor.result c.new-cursor.ensures.before)

pub unreachable-requires : goal.unreachable-requires
unreachable-requires c =
    c.is_same.ensures.other (grind (arith, c.places-test.ensures, c.places-test.true))
    (c.position.ensures ∙ at_end (chars c.args.text.now) c.args.position c.places.cursor c.requires.0 c.places.invariant.0 (over c.places.cursor c.bump.result c.bump.ensures.end (grind (arith, c.is_none.ensures, c.if-is_none.true)))
    c.places.invariant.1 c.requires.1 c.requires.2)

pub places-preserved : goal.places-preserved
places-preserved c =
    passed (chars c.args.text.now) c.args.position c.places.cursor c.bump.new.self c.bump.result c.bump.ensures.after c.bump.ensures.before (grind (arith, c.is_none.ensures, c.if-is_none.false)) c.places.invariant.0
    (λ h. c.is_same.ensures.other (grind (arith, c.places-test.ensures, c.places-test.true)) (c.position.ensures ∙ h)) c.places.invariant.1

pub returns : goal.returns
returns c = (c.places.cursor, c.places.invariant.0, sym c.position.ensures ∙ c.is_same.ensures.same (grind (arith, c.places-test.ensures, c.places-test.false)), c.at.ensures)
