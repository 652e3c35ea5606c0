use Rattle.std.proofs.Common.{◌≡◌, map, take}
use Rattle.indexmap.specs.IndexSet.{keys}
use Rattle.js_heap.proofs.properties.index_of.Given as goal

abbrev pub invariant-loop-property : goal.invariant-loop-property
invariant-loop-property l = keys l.index.value ≡ map (λ p. p.key) (take l.property-index l.properties)
