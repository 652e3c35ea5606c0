use Rattle.std.proofs.Common.{◌≡◌, map, drop}
use Rattle.js_value.specs.Realm.{each, make_function}
use Rattle.js_heap.specs.Heap.{heap_of}
use Rattle.js_realm.specs.private.Opening.{row_seen}
use Rattle.js_realm.proofs.opening.make_functions.Given as goal

abbrev pub invariant-loop-number : goal.invariant-loop-number
invariant-loop-number l =
    each make_function l.number (drop l.number (map row_seen l.table)) (heap_of l.heap) ≡ each make_function 0 (map row_seen l.table) (heap_of l.fn.heap)
