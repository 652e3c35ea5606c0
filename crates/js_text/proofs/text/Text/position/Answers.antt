use Rattle.std.proofs.Common.{ℕ, List, length, encode_utf8_all, sym, ap, ◌∙◌, arith}
use Rattle.js_text.proofs.Place.{length-encodes-push, before-after-moved, moves_over}
use Rattle.js_text.proofs.Position.{position-last, position-late}
use Rattle.js_text.proofs.text.Text.position.Goals as goal
use Rattle.js_text.proofs.text.Text.position.Goals.{in-Some+then-at-len_utf8, in_default}

pub loop-next-preserved : goal.loop-next-preserved
loop-next-preserved c =
    let old = c.loop-next.cursor in
    let new = c.bump.new.self in
    let moved = moves_over old new c.bump.result c.in-Some.next c.in-Some.ensures c.bump.ensures.after c.bump.ensures.before c.bump.ensures.end in
    let more = ap (λ (cs : List ℕ). length (encode_utf8_all cs)) moved.1 ∙ length-encodes-push old.before c.in-Some.next in
    (before-after-moved old new c.in-Some.next moved.0 moved.1 ∙ c.loop-next.invariant.0, omega (arith, c.len_utf8.ensures.value, c.loop-next.invariant.1))

pub returns : goal.returns
returns c = c.position.ensures ∙ elim c.match-peek.branch [
  | in-Some+then-at-len_utf8 w ↦
      position-late c.args.self.now c.loop-next.cursor c.args.at w.in-Some.next c.loop-next.invariant.0 c.loop-next.invariant.1 (sym w.in-Some.is ∙ c.peek.ensures)
      (omega (arith, w.len_utf8.ensures.value))
  | in_default w ↦
      position-last c.args.self.now c.loop-next.cursor c.args.at c.loop-next.invariant.0 c.loop-next.invariant.1 (sym w.in_default.is ∙ c.peek.ensures)
]
