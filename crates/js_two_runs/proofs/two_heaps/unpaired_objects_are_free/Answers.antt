use Rattle.js_two_runs.specs.TwoHeaps.{By}
use Rattle.js_two_runs.proofs.TwoHeapsLater.{heaps-grown_alone, heaps-written_alone}
use Rattle.js_two_runs.proofs.two_heaps.unpaired_objects_are_free.Goals as goal

pub returns-clause-made : goal.returns-clause-made
returns-clause-made c = λ pairs test h k x hk. heaps-grown_alone pairs (By test) h k x hk

pub returns-clause-written : goal.returns-clause-written
returns-clause-written c = λ pairs test h k p x hk apart. heaps-written_alone pairs (By test) h k p x hk apart
