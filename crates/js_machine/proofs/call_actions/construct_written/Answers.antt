use Rattle.std.proofs.Common.{refl, sym, ◌∙◌}
use Rattle.js_machine.proofs.call_actions.construct_written.Goals as goal

pub returns-then-is_constructor-clause-means : goal.returns-then-is_constructor-clause-means
returns-then-is_constructor-clause-means c = λ p of. rw (sym (c.is_constructor.ensures p of) ∙ c.if-is_constructor.true) refl

pub returns-else-is_constructor-clause-means : goal.returns-else-is_constructor-clause-means
returns-else-is_constructor-clause-means c = λ p of. rw (c.not_a_constructor.ensures, sym (c.is_constructor.ensures p of) ∙ c.if-is_constructor.false) refl
