use Rattle.std.proofs.Common.{◌≡◌, drop}
use Rattle.js_value.specs.Realm.{each, link}
use Rattle.js_heap.specs.Heap.{heap_of}
use Rattle.js_realm.proofs.opening.link.Given as goal

abbrev pub invariant-loop-pair : goal.invariant-loop-pair
invariant-loop-pair l =
    each link l.pair-index (drop l.pair-index l.table) (heap_of l.heap) ≡ each link 0 l.table (heap_of l.fn.heap)
