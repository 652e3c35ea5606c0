use Rattle.std.proofs.lemmas.Result.{IfOk-weaker}
use Rattle.std.proofs.Common.{arith}
use Rattle.js_machine.proofs.references.assign_plainly.Goals as goal

pub returns-in-Name-clause-means : goal.returns-in-Name-clause-means
returns-in-Name-clause-means c = IfOk-weaker c.with_frame.result _ _ (λ control means t. rw c.in-Name.is (means t)) c.with_frame.ensures.means

pub returns-in-Name-clause-less : goal.returns-in-Name-clause-less
returns-in-Name-clause-less c = IfOk-weaker c.with_frame.result _ _ (λ control weight w. omega (arith, weight w)) c.with_frame.ensures.weight

pub returns-in-Member-clause-means : goal.returns-in-Member-clause-means
returns-in-Member-clause-means c = IfOk-weaker c.with_frame-in-Member.result _ _ (λ control means t. rw c.in-Member.is (means t)) c.with_frame-in-Member.ensures.means

pub returns-in-Member-clause-less : goal.returns-in-Member-clause-less
returns-in-Member-clause-less c = IfOk-weaker c.with_frame-in-Member.result _ _ (λ control weight w. omega (arith, weight w)) c.with_frame-in-Member.ensures.weight
