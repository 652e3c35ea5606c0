use Rattle.std.proofs.Common.{◌≡◌, map, drop}
use Rattle.js_value.specs.Realm.{each, name_error}
use Rattle.js_heap.specs.Heap.{heap_of}
use Rattle.js_realm.specs.private.Opening.{error_seen}
use Rattle.js_realm.proofs.opening.name_errors.Given as goal

abbrev pub invariant-loop-pair : goal.invariant-loop-pair
invariant-loop-pair l =
    each name_error l.pair-index (drop l.pair-index (map error_seen l.table)) (heap_of l.heap) ≡ each name_error 0 (map error_seen l.table) (heap_of l.fn.heap)
