use Rattle.std.proofs.lemmas.Result.{IfOk-weaker}
use Rattle.std.proofs.Common.{refl, arith}
use Rattle.js_machine.proofs.loops.begin_test.Goals as goal

pub returns-in-None-clause-means : goal.returns-in-None-clause-means
returns-in-None-clause-means c = λ t. rw c.in-None.is refl

pub returns-in-Some-clause-means : goal.returns-in-Some-clause-means
returns-in-Some-clause-means c = IfOk-weaker c.with_frame.result _ _ (λ control means t. rw c.in-Some.is (means t)) c.with_frame.ensures.means

pub returns-in-Some-clause-less : goal.returns-in-Some-clause-less
returns-in-Some-clause-less c = IfOk-weaker c.with_frame.result _ _ (λ control weight w. rw c.in-Some.is (omega (arith, weight w))) c.with_frame.ensures.weight
