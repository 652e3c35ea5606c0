use Rattle.std.proofs.Common.{refl, sym, ◌∙◌}
use Rattle.js_machine.proofs.begin.broken_at.Goals as goal

pub returns-then-is_name-clause-means : goal.returns-then-is_name-clause-means
returns-then-is_name-clause-means c = λ p. rw (c.undefined.ensures, sym c.is_name.ensures ∙ c.if-is_name.true) refl

pub returns-else-is_name-clause-means : goal.returns-else-is_name-clause-means
returns-else-is_name-clause-means c = λ p. rw (sym c.is_name.ensures ∙ c.if-is_name.false) refl
