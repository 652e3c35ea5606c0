use Rattle.std.proofs.Common.{refl, sym, ◌∙◌}
use Rattle.js_machine.proofs.call_actions.construct_built_in.Goals as goal

pub returns-then-constructs-clause-means : goal.returns-then-constructs-clause-means
returns-then-constructs-clause-means c = λ t. rw (sym c.constructs.ensures ∙ c.if-constructs.true) refl

pub returns-else-constructs-clause-means : goal.returns-else-constructs-clause-means
returns-else-constructs-clause-means c = λ t. rw (c.not_a_constructor.ensures, sym c.constructs.ensures ∙ c.if-constructs.false) refl
