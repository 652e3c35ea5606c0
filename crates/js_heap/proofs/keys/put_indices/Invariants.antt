use Rattle.std.proofs.Common.{◌≡◌, ◌++◌, map}
use Rattle.js_value.specs.Key as spec
use Rattle.js_heap.specs.Object.{plain_property}
use Rattle.js_heap.proofs.keys.put_indices.Given as goal

abbrev pub invariant-loop-key : goal.invariant-loop-key
invariant-loop-key l = l.keys ++ map (λ x. x.1) l.key-iterator ≡ l.fn.keys ++ map (λ x. x.1) (spec.indexed (map plain_property l.fn.properties))
