use Rattle.std.proofs.Common.{refl}
use Rattle.js_machine.proofs.OtherNodes as other
use Rattle.js_machine.proofs.clauses.begin_clause.Goals as goal

pub returns-in-Case-clause-means : goal.returns-in-Case-clause-means
returns-in-Case-clause-means c = λ t. rw c.in-Case.is refl

pub returns-in_default-clause-means : goal.returns-in_default-clause-means
returns-in_default-clause-means c = λ t. rw (c.undefined.ensures, other.no_case t.tree c.args.node.now c.in_default.not-Case) refl
