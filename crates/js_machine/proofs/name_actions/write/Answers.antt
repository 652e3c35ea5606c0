use Rattle.std.proofs.Common.{refl, sym}
use Rattle.js_machine.proofs.name_actions.write.Goals as goal

pub returns-in-Some-Done-clause-means : goal.returns-in-Some-Done-clause-means
returns-in-Some-Done-clause-means c = λ t. rw (sym c.in-Some-Done.ensures.answer, c.in-Some-Done.field-0-is, c.in_ok-given.ensures) refl

pub returns-in-Some-Dead-clause-means : goal.returns-in-Some-Dead-clause-means
returns-in-Some-Dead-clause-means c = λ t. rw (sym c.in-Some-Dead.ensures.answer, c.in-Some-Dead.field-0-is) refl

pub returns-in-Some-Constant-clause-means : goal.returns-in-Some-Constant-clause-means
returns-in-Some-Constant-clause-means c = λ t. rw (sym c.in-Some-Constant.ensures.answer, c.in-Some-Constant.field-0-is) refl

pub returns-in-None-clause-means : goal.returns-in-None-clause-means
returns-in-None-clause-means c = λ t. rw (sym c.in-None.ensures.answer) refl
