use Rattle.std.proofs.Common.{◌≡◌, take}
use Rattle.source_map.specs.Read as spec
use Rattle.source_map.proofs.reader.under.Given as goal

abbrev pub invariant-loop-source : goal.invariant-loop-source
invariant-loop-source l = l.all.items ≡ spec.under l.root (take l.source-index l.sources)
