use Rattle.std.proofs.lemmas.Result.{IfOk-weaker}
use Rattle.std.proofs.Common.{refl, arith}
use Rattle.js_machine.proofs.clauses.begin_default_case.Goals as goal

pub returns-in-Some-clause-means : goal.returns-in-Some-clause-means
returns-in-Some-clause-means c = λ t loc. rw c.in-Some.is refl

pub returns-in-None-clause-means : goal.returns-in-None-clause-means
returns-in-None-clause-means c = IfOk-weaker c.begin_from.result _ _ (λ next means t loc. rw c.in-None.is (means t)) c.begin_from.ensures.means

pub returns-in-None-clause-less : goal.returns-in-None-clause-less
returns-in-None-clause-less c = IfOk-weaker c.begin_from.result _ _ (λ next less w. omega (arith, less w)) c.begin_from.ensures.less
