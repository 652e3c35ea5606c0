use Rattle.std.proofs.Common.{◌≡◌, map, drop}
use Rattle.js_value.specs.Realm.{each, name_object}
use Rattle.js_heap.specs.Heap.{heap_of}
use Rattle.js_realm.specs.private.Opening.{named_seen}
use Rattle.js_realm.proofs.opening.name_objects.Given as goal

abbrev pub invariant-loop-named : goal.invariant-loop-named
invariant-loop-named l =
    each name_object l.named-index (drop l.named-index (map named_seen l.table)) (heap_of l.heap) ≡ each name_object 0 (map named_seen l.table) (heap_of l.fn.heap)
