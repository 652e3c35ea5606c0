-- All are segments where those that are left may stand after the last one.
use Rattle.std.proofs.Common.{◌↔◌, drop}
use Rattle.source_map.specs.Laws.{AreSegments}
use Rattle.source_map.specs.private.Fit.{AreLeft}
use Rattle.source_map.proofs.fit.are_segments.Given as goal

abbrev pub invariant-loop-segment : goal.invariant-loop-segment
invariant-loop-segment l = AreLeft l.sources l.names l.last (drop l.segment-index l.segments) ↔ AreSegments l.sources l.names l.segments
