use Rattle.std.proofs.Common.{◌≡◌, take, map}
use Rattle.js_value.specs.Key as spec
use Rattle.js_heap.specs.Object.{plain_property}
use Rattle.js_heap.proofs.keys.indexed.Given as goal

abbrev pub invariant-loop-property : goal.invariant-loop-property
invariant-loop-property l = l.sorted.entries ≡ spec.indexed (map plain_property (take l.property-index l.properties))
