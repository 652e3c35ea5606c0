use Rattle.std.proofs.Common.{refl, sym}
use Rattle.js_machine.proofs.loop_actions.go_through.Goals as goal

pub returns-in-Ok-clause-means : goal.returns-in-Ok-clause-means
returns-in-Ok-clause-means c = λ t. rw (sym c.into_inner.ensures, c.in_ok-value.ensures, c.in-Some.is, c.in-Ok.ensures) refl

pub returns-in-None-clause-means : goal.returns-in-None-clause-means
returns-in-None-clause-means c = λ t. rw (sym c.into_inner.ensures, c.in_ok-value.ensures, c.in-None.is) refl
