-- All are UTF-8 where those that are left are.
use Rattle.std.proofs.Common.{drop}
use Rattle.source_map.specs.Kept.{AreSources}
use Rattle.source_map.proofs.kept.look_at_sources.Given as goal

abbrev pub invariant-loop-source : goal.invariant-loop-source
invariant-loop-source l = AreSources (drop l.source-index l.sources) → AreSources l.sources
