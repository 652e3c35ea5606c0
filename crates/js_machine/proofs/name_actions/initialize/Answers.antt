use Rattle.std.proofs.Common.{refl, sym}
use Rattle.js_machine.proofs.name_actions.initialize.Goals as goal

pub returns-in-Some-clause-means : goal.returns-in-Some-clause-means
returns-in-Some-clause-means c = λ t. rw (sym c.in-Some.ensures.cell, c.in_ok-given.ensures) refl

pub returns-in-None-clause-means : goal.returns-in-None-clause-means
returns-in-None-clause-means c = λ t. rw (sym c.in-None.ensures.cell) refl
