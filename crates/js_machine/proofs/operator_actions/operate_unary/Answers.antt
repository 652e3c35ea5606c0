use Rattle.std.proofs.Common.{refl, ◌∙◌}
use Rattle.js_machine.proofs.Looked.{has_unary_one, unary_else}
use Rattle.js_machine.proofs.operator_actions.operate_unary.Goals as goal

pub returns-in-Delete-clause-means : goal.returns-in-Delete-clause-means
returns-in-Delete-clause-means c = λ t. rw (c.truth.ensures, c.in-Delete.is) refl

pub returns-in-Void-clause-means : goal.returns-in-Void-clause-means
returns-in-Void-clause-means c = λ t. rw c.in-Void.is refl

pub returns-in_ok-type_in-in-TypeOf-clause-means : goal.returns-in_ok-type_in-in-TypeOf-clause-means
returns-in_ok-type_in-in-TypeOf-clause-means c = λ t. rw (c.in-TypeOf.is, c.in_ok-type_in-in-TypeOf.ensures) refl

pub calculate_unary-requires : goal.calculate_unary-requires
calculate_unary-requires c = has_unary_one c.args.operator c.in_default.not-Delete c.in_default.not-Void c.in_default.not-TypeOf

pub returns-in_default-clause-means : goal.returns-in_default-clause-means
returns-in_default-clause-means c = λ t. c.calculate_unary.ensures.means t
    ∙ unary_else c.args.operator c.in_default.not-Delete c.in_default.not-Void c.in_default.not-TypeOf c.args.value.now c.args.heap.now
