use Rattle.std.proofs.Common.{refl, sym, ◌∙◌}
use Rattle.js_machine.proofs.operators.turn.Goals as goal

pub returns-then-to_boolean-clause-means : goal.returns-then-to_boolean-clause-means
returns-then-to_boolean-clause-means c = λ t. rw (sym c.to_boolean.ensures ∙ c.if-to_boolean.true) refl

pub returns-else-to_boolean-clause-means : goal.returns-else-to_boolean-clause-means
returns-else-to_boolean-clause-means c = λ t. rw (c.undefined.ensures, sym c.to_boolean.ensures ∙ c.if-to_boolean.false) refl
