use Rattle.std.proofs.Common.{refl, sym}
use Rattle.js_machine.proofs.name_actions.read.Goals as goal

pub returns-in_ok-copy-in-Some-value_of-clause-means : goal.returns-in_ok-copy-in-Some-value_of-clause-means
returns-in_ok-copy-in-Some-value_of-clause-means c = λ t. rw (sym c.in-Some.ensures, sym c.in-Some-value_of.ensures, c.in_ok-copy-in-Some-value_of.ensures) refl

pub returns-in-None-value_of-clause-means : goal.returns-in-None-value_of-clause-means
returns-in-None-value_of-clause-means c = λ t. rw (sym c.in-Some.ensures, sym c.in-None-value_of.ensures) refl

pub returns-in-None-clause-means : goal.returns-in-None-clause-means
returns-in-None-clause-means c = λ t. rw (sym c.in-None.ensures) refl
