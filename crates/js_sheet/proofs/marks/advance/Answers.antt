use Rattle.std.proofs.Common.{ℕ, List, length, encode_utf8_all, sym, ap, ◌∙◌, arith}
use Rattle.js_text.proofs.Place.{length-encodes-push, before-after-moved, moves_over, place_at-last, place_at-late}
use Rattle.js_text.specs.Place.{place_at}
use Rattle.js_sheet.proofs.marks.advance.Goals as goal

pub loop-next-preserved : goal.loop-next-preserved
loop-next-preserved c =
    let old = c.loop-next.cursor in
    let new = c.bump.new.self in
    let moved = moves_over old new c.bump.result c.in-Some.next c.in-Some.ensures c.bump.ensures.after c.bump.ensures.before c.bump.ensures.end in
    let more = ap (λ (cs : List ℕ). length (encode_utf8_all cs)) moved.1 ∙ length-encodes-push old.before c.in-Some.next in
    (before-after-moved old new c.in-Some.next moved.0 moved.1 ∙ c.loop-next.invariant.0, omega (arith, c.len_utf8.ensures.value, c.loop-next.invariant.1))

pub returns-then-at-len_utf8 : goal.returns-then-at-len_utf8
returns-then-at-len_utf8 c =
    let cursor = c.loop-next.cursor in
    sym (place_at-late cursor.before cursor.after c.args.at c.in-Some.next c.loop-next.invariant.1 (sym c.in-Some.is ∙ c.peek.ensures) (omega (arith, c.len_utf8.ensures.value)))
    ∙ ap (λ cs. place_at cs c.args.at) c.loop-next.invariant.0

pub returns-in_default : goal.returns-in_default
returns-in_default c =
    let cursor = c.loop-next.cursor in
    sym (place_at-last cursor.before cursor.after c.args.at c.loop-next.invariant.1 (sym c.in_default.is ∙ c.peek.ensures))
    ∙ ap (λ cs. place_at cs c.args.at) c.loop-next.invariant.0
