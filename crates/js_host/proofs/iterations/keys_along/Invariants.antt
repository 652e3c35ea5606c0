use Rattle.std.proofs.Common.{◌≡◌, ◌+◌, ◌-◌, ◌++◌, [], Some, option_map}
use Rattle.indexmap.specs.IndexSet as set
use Rattle.js_value.specs.Iterations.{keys_along}
use Rattle.js_heap.specs.Heap.{heap_of}
use Rattle.js_host.proofs.iterations.keys_along.Given as goal

abbrev pub invariant-loop : goal.invariant-loop
invariant-loop l =
    let objects = (heap_of l.heap).objects in
    l.keys ++ keys_along (l.end - l.counter) objects (option_map (λ o. o.index) l.chain) (set.keys l.met) ≡ keys_along (l.fn.object.index + 1) objects (Some l.fn.object.index) []
