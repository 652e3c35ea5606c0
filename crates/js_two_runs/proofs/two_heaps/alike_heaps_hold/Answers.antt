use Rattle.js_two_runs.specs.TwoHeaps.{By}
use Rattle.js_two_runs.proofs.TwoHeapsSeen.{held-left, held-right, held}
use Rattle.js_two_runs.proofs.two_heaps.alike_heaps_hold.Goals as goal

pub returns : goal.returns
returns c = λ pairs test h k hk. (held-left pairs (By test) h k hk, held-right pairs (By test) h k hk, held pairs (By test) h k hk)
