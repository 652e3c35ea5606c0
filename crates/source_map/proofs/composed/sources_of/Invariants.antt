use Rattle.std.proofs.Common.{◌≡◌, take}
use Rattle.source_map.proofs.composed.sources_of.Given as goal

abbrev pub invariant-loop-source : goal.invariant-loop-source
invariant-loop-source l = l.sources.items ≡ take l.source-index l.map.sources
