use Rattle.std.proofs.Common.{◌≡◌, map, take}
use Rattle.printed_map.specs.Marked.{segment_of}
use Rattle.printed_map.proofs.map.segments_of.Given as goal

abbrev pub invariant-loop-mark : goal.invariant-loop-mark
invariant-loop-mark l = l.segments.items ≡ map segment_of (take l.mark-index l.marks)
