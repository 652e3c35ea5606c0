use Rattle.std.proofs.Common.{refl}
use Rattle.js_machine.proofs.literals.begin_number_key.Goals as goal

pub returns-in-None-clause-means : goal.returns-in-None-clause-means
returns-in-None-clause-means c = λ t. rw c.in-None.is refl
