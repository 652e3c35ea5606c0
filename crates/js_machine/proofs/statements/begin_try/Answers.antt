use Rattle.std.proofs.lemmas.Result.{IfOk-weaker}
use Rattle.std.proofs.Common.{arith}
use Rattle.js_machine.proofs.statements.begin_try.Goals as goal

pub returns-clause-means : goal.returns-clause-means
returns-clause-means c = IfOk-weaker c.with_frame.result _ _ (λ control means t. means t) c.with_frame.ensures.means

pub returns-clause-weight : goal.returns-clause-weight
returns-clause-weight c = IfOk-weaker c.with_frame.result _ _ (λ control weight w. omega (arith, weight w)) c.with_frame.ensures.weight
