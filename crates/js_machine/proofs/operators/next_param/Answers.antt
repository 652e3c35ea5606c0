use Rattle.std.proofs.Common.{refl}
use Rattle.js_machine.proofs.operators.next_param.Goals as goal

pub returns-clause-means : goal.returns-clause-means
returns-clause-means c = λ t value. rw c.next_place-next.ensures refl
