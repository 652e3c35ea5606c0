use Rattle.std.proofs.Common.{◌≡◌, drop}
use Rattle.js_value.specs.Copying.{copy_keys}
use Rattle.js_heap.specs.Heap.{heap_of}
use Rattle.js_host.proofs.copying.copy_keys.Given as goal

abbrev pub invariant-loop-key : goal.invariant-loop-key
invariant-loop-key l =
    copy_keys l.target.index l.source.index (drop l.key-index l.keys) (heap_of l.heap) ≡ copy_keys l.target.index l.source.index l.keys (heap_of l.fn.heap)
