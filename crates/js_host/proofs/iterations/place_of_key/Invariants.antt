use Rattle.std.proofs.Common.{◌≡◌, drop}
use Rattle.js_value.specs.Iterations.{next_key}
use Rattle.js_heap.specs.Heap.{heap_of}
use Rattle.js_host.proofs.iterations.place_of_key.Given as goal

abbrev pub invariant-loop-place : goal.invariant-loop-place
invariant-loop-place l = next_key (heap_of l.heap) l.of (drop l.fn.from l.keys) ≡ next_key (heap_of l.heap) l.of (drop l.place l.keys)
