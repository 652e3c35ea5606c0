use Rattle.js_two_runs.specs.TwoHeaps.{By}
use Rattle.js_two_runs.proofs.TwoOperationsLemmas.{operations-alike, new_objects-alike}
use Rattle.js_two_runs.proofs.two_operations.operations_are_alike.Goals as goal

pub returns-clause-pairs : goal.returns-clause-pairs
returns-clause-pairs c = λ pairs test h k hk o p i. operations-alike pairs (By test) h k hk o p i

pub returns-clause-made : goal.returns-clause-made
returns-clause-made c = λ pairs test h k a b r q hk s t. new_objects-alike pairs (By test) h k a b r q hk s t
