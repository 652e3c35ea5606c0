use Rattle.std.proofs.Common.{arith}
use Rattle.js_code.proofs.Told.{expected_at, expected_end, expected_on}
use Rattle.js_code.proofs.names.expected_arguments.Goals as goal

pub loop-index-init : goal.loop-index-init
loop-index-init c = omega arith

pub loop-index-preserved : goal.loop-index-preserved
loop-index-preserved c = expected_on c.args.params.now c.loop-index-test.true c.index-params-index.is c.if-has_default.ensures c.loop-index.invariant

pub returns-then-has_default : goal.returns-then-has_default
returns-then-has_default c = expected_at c.args.params.now c.loop-index-test.true c.index-params-index.is c.if-has_default.ensures c.loop-index.invariant

pub returns : goal.returns
returns c = expected_end _ _ (omega arith) (omega arith) c.loop-index.invariant
