use Rattle.std.proofs.Common.{◌≡◌, drop}
use Rattle.js_value.specs.Copying.{copy_values}
use Rattle.js_heap.specs.Heap.{heap_of}
use Rattle.js_host.proofs.copying.copy_values.Given as goal

abbrev pub invariant-loop-source : goal.invariant-loop-source
invariant-loop-source l =
    copy_values l.target.index (drop l.source-index l.sources) (heap_of l.heap) ≡ copy_values l.target.index l.sources (heap_of l.fn.heap)
