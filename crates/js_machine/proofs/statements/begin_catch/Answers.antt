use Rattle.std.proofs.Common.{refl, ap, ◌∙◌}
use Rattle.js_machine.proofs.OtherNodes as other
use Rattle.js_machine.specs.private.Config.{name_of}
use Rattle.js_machine.proofs.statements.begin_catch.Goals as goal

pub returns-in-Catch-clause-means : goal.returns-in-Catch-clause-means
returns-in-Catch-clause-means c = λ t named. rw c.in-Catch.is refl

pub returns-in-CatchName-clause-means : goal.returns-in-CatchName-clause-means
returns-in-CatchName-clause-means c = λ t named. rw (c.in-CatchName.is, named ∙ ap name_of c.in-CatchName.is) refl

pub returns-in_default-clause-means : goal.returns-in_default-clause-means
returns-in_default-clause-means c = λ t named. rw (c.undefined.ensures, other.no_catch t.tree c.args.node.now c.in_default.not-Catch c.in_default.not-CatchName) refl
