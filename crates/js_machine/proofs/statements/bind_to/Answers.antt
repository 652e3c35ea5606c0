use Rattle.std.proofs.Common.{refl}
use Rattle.js_machine.proofs.statements.bind_to.Goals as goal

pub returns-in-Var-clause-means : goal.returns-in-Var-clause-means
returns-in-Var-clause-means c = λ t. rw c.in-Var.is refl

pub returns-in-Let-clause-means : goal.returns-in-Let-clause-means
returns-in-Let-clause-means c = λ t. rw c.in-Let.is refl

pub returns-in-Const-clause-means : goal.returns-in-Const-clause-means
returns-in-Const-clause-means c = λ t. rw c.in-Const.is refl
