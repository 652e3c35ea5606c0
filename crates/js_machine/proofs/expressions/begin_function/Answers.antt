use Rattle.js_machine.specs.private.Config.{own_name}
use Rattle.std.proofs.Common.{refl, ap, ◌∙◌}
use Rattle.js_machine.proofs.expressions.begin_function.Goals as goal

pub returns-in-None-clause-means : goal.returns-in-None-clause-means
returns-in-None-clause-means c = λ t loc named. rw c.in-None.is refl

pub returns-in-Some-clause-means : goal.returns-in-Some-clause-means
returns-in-Some-clause-means c = λ t loc named. rw (c.in-Some.is, named ∙ ap own_name c.in-Some.is) refl
