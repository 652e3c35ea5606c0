use Rattle.std.proofs.Common.{◌≡◌, map, take}
use Rattle.source_map.specs.Trace.{followed}
use Rattle.source_map.proofs.composed.all_followed.Given as goal

abbrev pub invariant-loop-segment : goal.invariant-loop-segment
invariant-loop-segment l = l.segments.items ≡ map (followed l.outer l.inner) (take l.segment-index l.outer.segments)
