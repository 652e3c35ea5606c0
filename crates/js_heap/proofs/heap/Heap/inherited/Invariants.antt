use Rattle.std.proofs.Common.{◌≡◌, ◌-◌, option_map}
use Rattle.js_value.specs.Objects.{object_at, found}
use Rattle.js_heap.specs.Heap.{heap_of}
use Rattle.js_heap.proofs.heap.Heap.inherited.Given as goal

abbrev pub invariant-loop : goal.invariant-loop
invariant-loop l =
    let s = heap_of l.self in
    let o = l.fn.object.index in
    found (l.end - l.counter) s.objects (option_map (λ o. o.index) l.chain) l.name ≡ found o s.objects (object_at s o).prototype l.name
