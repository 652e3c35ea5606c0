use Rattle.std.proofs.Common.{refl}
use Rattle.js_machine.proofs.call_actions.construct.Goals as goal

pub returns-in-Object-clause-means : goal.returns-in-Object-clause-means
returns-in-Object-clause-means c = λ p of. rw c.in-Object.is (c.construct_object.ensures.means p of)

pub returns-in-Primitive-clause-means : goal.returns-in-Primitive-clause-means
returns-in-Primitive-clause-means c = λ p of. rw (c.in-Primitive.is, c.not_a_constructor.ensures) refl
