use Rattle.std.proofs.Common.{◌≡◌, ◌-◌, ◌^◌, ◌<◌, option_map, pos}
use Rattle.js_value.specs.Numbers.{decimal_text}
use Rattle.js_value.specs.Objects.{object_at, found}
use Rattle.js_heap.specs.Heap.{heap_of}
use Rattle.js_heap.proofs.heap.Heap.inherits_none.Given as goal

abbrev pub invariant-loop : goal.invariant-loop
invariant-loop l =
    let s = heap_of l.self in
    let o = l.fn.object.index in
    let key = decimal_text (pos l.index) in
    l.index < 2 ^ 32 - 1 → found (l.end - l.counter) s.objects (option_map (λ o. o.index) l.chain) key ≡ found o s.objects (object_at s o).prototype key
