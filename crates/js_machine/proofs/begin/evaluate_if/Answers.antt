use Rattle.std.proofs.Common.{refl}
use Rattle.js_machine.proofs.begin.evaluate_if.Goals as goal

pub returns-in-None-clause-means : goal.returns-in-None-clause-means
returns-in-None-clause-means c = λ t. rw (c.in-None.is, c.undefined.ensures) refl

pub returns-in-Some-clause-means : goal.returns-in-Some-clause-means
returns-in-Some-clause-means c = λ t. rw c.in-Some.is refl
