use Rattle.std.proofs.Common.{refl}
use Rattle.js_machine.proofs.OtherNodes as other
use Rattle.js_machine.proofs.statements.begin_init.Goals as goal

pub returns-in-InitDeclaration-clause-means : goal.returns-in-InitDeclaration-clause-means
returns-in-InitDeclaration-clause-means c = λ t. rw c.in-InitDeclaration.is refl

pub returns-in-InitExpression-clause-means : goal.returns-in-InitExpression-clause-means
returns-in-InitExpression-clause-means c = λ t. rw c.in-InitExpression.is refl

pub returns-in_default-clause-means : goal.returns-in_default-clause-means
returns-in_default-clause-means c = λ t. rw (c.undefined.ensures, other.no_init t.tree c.args.node.now c.in_default.not-InitDeclaration c.in_default.not-InitExpression) refl
