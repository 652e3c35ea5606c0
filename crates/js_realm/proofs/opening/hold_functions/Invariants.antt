use Rattle.std.proofs.Common.{◌≡◌, map, drop}
use Rattle.js_value.specs.Realm.{each, hold_function}
use Rattle.js_heap.specs.Heap.{heap_of}
use Rattle.js_realm.specs.private.Opening.{row_seen}
use Rattle.js_realm.proofs.opening.hold_functions.Given as goal

abbrev pub invariant-loop-number : goal.invariant-loop-number
invariant-loop-number l =
    each hold_function l.number (drop l.number (map row_seen l.table)) (heap_of l.heap) ≡ each hold_function 0 (map row_seen l.table) (heap_of l.fn.heap)
