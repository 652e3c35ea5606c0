use Rattle.std.proofs.Common.{◌≡◌, ◌++◌, ◌-◌}
use Rattle.js_value.specs.OnObjects.{at_indices}
use Rattle.js_heap.specs.Heap.{heap_of}
use Rattle.js_host.proofs.functions.at_indices.Given as goal

abbrev pub invariant-loop-index : goal.invariant-loop-index
invariant-loop-index l = l.values ++ at_indices (heap_of l.heap) l.object.index (l.length - l.index) l.index ≡ at_indices (heap_of l.heap) l.object.index l.length 0
