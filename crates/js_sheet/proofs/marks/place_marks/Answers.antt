use Rattle.js_sheet.proofs.Offsets.{next_mark}
use Rattle.js_sheet.proofs.marks.place_marks.Goals as goal

pub loop-offset-preserved : goal.loop-offset-preserved
loop-offset-preserved c =
    next_mark c.loop-offset.cursor c.advance.new.cursor c.args.text.now c.args.offsets.now c.loop-offset.offset-index c.position.result c.loop-offset.marks c.push.new.self c.loop-offset-test.true c.loop-offset.invariant
    c.advance.ensures c.position.ensures c.in_ok-push.ensures.ok
