use Rattle.js_code.proofs.BoundNames.{hoisted_go_on}
use Rattle.js_code.proofs.hoisting.hoisted_of_cases.Goals as goal

pub loop-first-preserved : goal.loop-first-preserved
loop-first-preserved c = hoisted_go_on c.loop-first.functions c.in_ok-hoist_case.ensures c.in-Some.ensures.1 c.loop-first.invariant
