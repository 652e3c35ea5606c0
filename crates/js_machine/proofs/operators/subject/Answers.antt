use Rattle.std.proofs.Common.{refl}
use Rattle.js_machine.proofs.operators.subject.Goals as goal

pub returns-then-keys-clause-means : goal.returns-then-keys-clause-means
returns-then-keys-clause-means c = λ t. rw c.if-keys.true refl

pub returns-else-keys-clause-means : goal.returns-else-keys-clause-means
returns-else-keys-clause-means c = λ t. rw c.if-keys.false refl
