use Rattle.std.proofs.Common.{◌≡◌, ◌++◌, drop, flat_map}
use Rattle.js_value.specs.OnObjects.{spread}
use Rattle.js_heap.specs.Heap.{heap_of}
use Rattle.js_host.proofs.arrays.spread_all.Given as goal

abbrev pub invariant-loop-value : goal.invariant-loop-value
invariant-loop-value l =
    l.elements ++ flat_map (spread (heap_of l.heap)) (drop l.value-index l.values) ≡ l.fn.elements ++ flat_map (spread (heap_of l.heap)) l.values
