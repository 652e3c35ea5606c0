use Rattle.std.proofs.Common.{refl}
use Rattle.js_value.specs.UnaryOperators.{unary}
use Rattle.js_machine.proofs.Given.{given_value}
use Rattle.js_machine.proofs.operator_actions.calculate_unary.Goals as goal

pub returns-in-Ok-clause-means : goal.returns-in-Ok-clause-means
returns-in-Ok-clause-means c = λ t. given_value (unary c.args.operator c.args.value.now) c.in-Ok.value c.in-Ok.ensures.ok

pub returns-in-Err-clause-means : goal.returns-in-Err-clause-means
returns-in-Err-clause-means c = λ t. rw c.in-Err.ensures.refused refl
