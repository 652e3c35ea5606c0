use Rattle.std.proofs.Common.{◌≡◌, drop}
use Rattle.js_value.specs.declared.built_in.TheConstants.{PROTOTYPES}
use Rattle.js_value.specs.Realm.{each, make_object}
use Rattle.js_heap.specs.Heap.{heap_of}
use Rattle.js_realm.proofs.opening.make_objects.Given as goal

abbrev pub invariant-loop-row : goal.invariant-loop-row
invariant-loop-row l =
    each make_object l.row-index (drop l.row-index PROTOTYPES) (heap_of l.heap) ≡ each make_object 0 PROTOTYPES (heap_of l.fn.heap)
