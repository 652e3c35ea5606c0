-- All are UTF-8 where those that are left are.
use Rattle.std.proofs.Common.{drop}
use Rattle.source_map.specs.Kept.{AreTexts}
use Rattle.source_map.proofs.kept.look_at_names.Given as goal

abbrev pub invariant-loop-name : goal.invariant-loop-name
invariant-loop-name l = AreTexts (drop l.name-index l.names) → AreTexts l.names
