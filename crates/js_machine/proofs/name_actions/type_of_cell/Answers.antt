use Rattle.std.proofs.Common.{refl, sym}
use Rattle.js_machine.proofs.name_actions.type_of_cell.Goals as goal

pub returns-in_ok-type_in-in-Some-clause-means : goal.returns-in_ok-type_in-in-Some-clause-means
returns-in_ok-type_in-in-Some-clause-means c = λ t. rw (sym c.in-Some.ensures, c.in_ok-type_in-in-Some.ensures) refl

pub returns-in-None-clause-means : goal.returns-in-None-clause-means
returns-in-None-clause-means c = λ t. rw (sym c.in-None.ensures) refl
