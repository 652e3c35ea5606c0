use Rattle.std.proofs.Common.{refl}
use Rattle.js_machine.proofs.call_actions.call.Goals as goal

pub returns-in-Object-clause-means : goal.returns-in-Object-clause-means
returns-in-Object-clause-means c = λ t. rw c.in-Object.is (c.call_object.ensures.means t)

pub returns-in-Primitive-clause-means : goal.returns-in-Primitive-clause-means
returns-in-Primitive-clause-means c = λ t. rw (c.in-Primitive.is, c.not_a_function.ensures) refl
