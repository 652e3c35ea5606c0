use Rattle.std.proofs.Common.{◌≡◌, drop}
use Rattle.js_heap.specs.Heap.{heap_of}
use Rattle.js_meaning.specs.Scopes.{hoisted}
use Rattle.js_machine.proofs.scopes.hoist.Given as goal

abbrev pub invariant-loop-function : goal.invariant-loop-function
invariant-loop-function l = hoisted (drop l.function-index l.functions) l.env.index (heap_of l.heap) ≡ hoisted l.functions l.env.index (heap_of l.fn.heap)
