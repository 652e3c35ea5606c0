use Rattle.std.proofs.Common.{◌≡◌, ◌-◌, option_map}
use Rattle.js_value.specs.Objects.{object_at, stands_on}
use Rattle.js_heap.specs.Heap.{heap_of}
use Rattle.js_heap.proofs.heap.Heap.inherits.Given as goal

abbrev pub invariant-loop : goal.invariant-loop
invariant-loop l =
    let s = heap_of l.self in
    let o = l.fn.object.index in
    stands_on (l.end - l.counter) s.objects (option_map (λ o. o.index) l.chain) l.other.index ≡ stands_on o s.objects (object_at s o).prototype l.other.index
