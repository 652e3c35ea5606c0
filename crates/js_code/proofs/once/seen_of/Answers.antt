-- A name goes from what is left into the set.
use Rattle.js_code.proofs.SeenNames.{moves_in}
use Rattle.js_code.proofs.once.seen_of.Goals as goal

pub loop-name-preserved : goal.loop-name-preserved
loop-name-preserved c = moves_in _ _ c.as_str.result _ _ _ c.loop-name-test.true c.name-item.is c.as_str.ensures c.in_ok-insert.ensures.updates c.loop-name.invariant
