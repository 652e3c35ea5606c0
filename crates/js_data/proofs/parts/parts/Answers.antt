use Rattle.std.proofs.Common.{refl, sym}
use Rattle.js_data.proofs.Steps.{parts_ends, rest-of}
use Rattle.js_data.proofs.parts.parts.Goals as goal

pub loop-left-preserved-then-starts_with : goal.loop-left-preserved-then-starts_with
loop-left-preserved-then-starts_with c =
    parts_ends c.loop-left.parts c.push.new.self c.in_ok-from_vec.field-0 c.loop-left.before.items c.new-before-then-starts_with.result.items c.args.separator.now c.loop-left.left.now _ _
    c.requires c.in-len1-up.len_at_least (c.if-starts_with.ensures.bound refl) (sym c.if-starts_with.ensures.value) c.in_ok-push.ensures.ok c.in_ok-from_vec.ensures c.new-before-then-starts_with.ensures.items
    (rest-of _ c.loop-left.left.now) c.loop-left.invariant
