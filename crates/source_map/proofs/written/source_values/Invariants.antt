use Rattle.std.proofs.Common.{◌≡◌, map, take}
use Rattle.serde_json.specs.View.{view}
use Rattle.source_map.specs.Write.{source_data}
use Rattle.source_map.proofs.written.source_values.Given as goal

abbrev pub invariant-loop-source : goal.invariant-loop-source
invariant-loop-source l = map view l.values.items ≡ map source_data (take l.source-index l.parts.sources)
