use Rattle.std.proofs.Common.{◌≡◌, ◌-◌}
use Rattle.js_value.specs.Realm.{built_in_count, freeze_all}
use Rattle.js_heap.specs.Heap.{heap_of}
use Rattle.js_realm.proofs.opening.freeze_all.Given as goal

abbrev pub invariant-loop-index : goal.invariant-loop-index
invariant-loop-index l =
    freeze_all (built_in_count - l.index) l.index (heap_of l.heap) ≡ freeze_all built_in_count 0 (heap_of l.fn.heap)
