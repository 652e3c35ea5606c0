use Rattle.js_two_runs.specs.TwoHeaps.{By}
use Rattle.js_two_runs.proofs.TwoHeapsSeen.{seen}
use Rattle.js_two_runs.proofs.two_heaps.alike_heaps_are_related.Goals as goal

pub returns : goal.returns
returns c = λ pairs test h k hk. seen pairs (By test) h k hk
