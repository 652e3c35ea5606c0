use Rattle.std.proofs.Common.{◌≡◌, ◌++◌, drop, string_bytes}
use Rattle.source_map.specs.Write.{mappings_from, mappings_text}
use Rattle.source_map.proofs.written.mappings_of.Given as goal

abbrev pub invariant-loop-segment : goal.invariant-loop-segment
invariant-loop-segment l = string_bytes l.out ++ mappings_from l.state l.later (drop l.segment-index l.segments) ≡ mappings_text l.segments
