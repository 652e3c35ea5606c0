-- Each turn leaves one character less to move over.
use Rattle.std.proofs.Common.{◌≡◌, ◌-◌, ◌+◌, suc, arith, ◌∙◌}
use Rattle.js_lexer.proofs.Places.{moved-less}
use Rattle.js_lexer.proofs.scan.advance_by.Goals as goal

pub loop-preserved : goal.loop-preserved
loop-preserved c =
    let less : c.args.count - c.loop.counter ≡ suc (c.args.count - (c.loop.counter + 1)) = omega arith in
    moved-less c.loop.cursor c.bump.new.self c.bump.result _ _ less c.bump.ensures.after c.bump.ensures.before c.bump.ensures.end c.bump.ensures.unchanged
    ∙ c.loop.invariant
