use Rattle.std.proofs.Common.{refl}
use Rattle.js_machine.proofs.OtherNodes as other
use Rattle.js_machine.proofs.functions.begin_params.Goals as goal

pub returns-in-Some-clause-means : goal.returns-in-Some-clause-means
returns-in-Some-clause-means c = λ t. rw c.in-Some.ensures.more refl

pub returns-in-None-clause-means : goal.returns-in-None-clause-means
returns-in-None-clause-means c = λ t. rw (c.undefined.ensures, other.no_params t.tree c.args.node.now (c.list_of.ensures.end c.in-None.is)) refl
