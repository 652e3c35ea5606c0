use Rattle.js_code.proofs.BoundNames.{case_goes_on}
use Rattle.js_code.proofs.names.case_scope.Goals as goal

pub loop-case-preserved : goal.loop-case-preserved
loop-case-preserved c = case_goes_on c.loop-case.names c.args.cases.now c.loop-case-test.true c.case-item.is c.as_slice-in-loop-case.ensures c.in_ok-push_lexical.ensures c.loop-case.invariant
