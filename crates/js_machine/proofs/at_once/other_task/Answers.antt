use Rattle.std.proofs.Common.{arith}
use Rattle.js_machine.specs.private.Weight.{place_weight}
use Rattle.js_machine.proofs.AtOnce.{found_then}
use Rattle.js_machine.proofs.Weights.{heavy}
use Rattle.js_machine.proofs.at_once.other_task.Goals as goal

pub returns-in-EvaluateNamed-clause-turns : goal.returns-in-EvaluateNamed-clause-turns
returns-in-EvaluateNamed-clause-turns c = found_then c.named_task.result _ _ c.named_task.ensures.turns (λ control turns p. rw c.in-EvaluateNamed.is (turns p _))

pub returns-in-EvaluateNamed-clause-less : goal.returns-in-EvaluateNamed-clause-less
returns-in-EvaluateNamed-clause-less c = found_then c.named_task.result _ _ c.named_task.ensures.less (λ control less. rw c.in-EvaluateNamed.is (omega (arith, less place_weight, heavy c.in-EvaluateNamed.place)))

pub returns-in-Execute-clause-turns : goal.returns-in-Execute-clause-turns
returns-in-Execute-clause-turns c = found_then c.execute_task.result _ _ c.execute_task.ensures.turns (λ control turns p. rw c.in-Execute.is (turns p))

pub returns-in-Execute-clause-less : goal.returns-in-Execute-clause-less
returns-in-Execute-clause-less c = found_then c.execute_task.result _ _ c.execute_task.ensures.less (λ control less. rw c.in-Execute.is less)

pub returns-in-ExecuteAll-clause-turns : goal.returns-in-ExecuteAll-clause-turns
returns-in-ExecuteAll-clause-turns c = found_then c.first_task.result _ _ c.first_task.ensures.turns (λ control turns p. rw c.in-ExecuteAll.is (turns p))

pub returns-in-ExecuteAll-clause-less : goal.returns-in-ExecuteAll-clause-less
returns-in-ExecuteAll-clause-less c = found_then c.first_task.result _ _ c.first_task.ensures.less (λ control less. rw c.in-ExecuteAll.is less)

pub returns-in-Test-clause-turns : goal.returns-in-Test-clause-turns
returns-in-Test-clause-turns c = found_then c.test_task.result _ _ c.test_task.ensures.turns (λ control turns p. rw c.in-Test.is (turns p))

pub returns-in-Test-clause-less : goal.returns-in-Test-clause-less
returns-in-Test-clause-less c = found_then c.test_task.result _ _ c.test_task.ensures.less (λ control less. rw c.in-Test.is (omega (arith, less place_weight)))

pub returns-in-Referred-clause-turns : goal.returns-in-Referred-clause-turns
returns-in-Referred-clause-turns c = found_then c.referred_task.result _ _ c.referred_task.ensures.turns (λ control turns p. rw c.in-Referred.is (turns p))

pub returns-in-Referred-clause-less : goal.returns-in-Referred-clause-less
returns-in-Referred-clause-less c = found_then c.referred_task.result _ _ c.referred_task.ensures.less (λ control less. rw c.in-Referred.is (less place_weight))
