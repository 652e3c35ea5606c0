use Rattle.std.proofs.Common.{refl, ap}
use Rattle.std.proofs.Common.{Err}
use Rattle.js_value.specs.Operators.{binary}
use Rattle.js_machine.proofs.Given.{given_value}
use Rattle.js_machine.proofs.operator_actions.calculate.Goals as goal

pub returns-in-Ok-clause-means : goal.returns-in-Ok-clause-means
returns-in-Ok-clause-means c = λ t. given_value (binary c.args.operator c.args.left.now c.args.right.now) c.in-Ok.value c.in-Ok.ensures.ok

pub returns-in-Err-Refuse-clause-means : goal.returns-in-Err-Refuse-clause-means
returns-in-Err-Refuse-clause-means c = λ t. rw ((c.in-Err-Refuse.ensures.refused c.in-Err-Refuse.kind).0 (ap Err c.in-Err-Refuse.field-0-is)) refl
