-- What the definition of a program's heap sees in the heap of the code.
use Rattle.std.specs.Prelude.{map}
use Rattle.js_value.specs.State as state
use Rattle.js_heap.specs.declared.heap.Heap.{Heap}
use Rattle.js_heap.specs.Object.{plain_object}
use Rattle.js_heap.specs.Environment.{plain_environment}

-- its objects and its environments
abbrev pub heap_of : Heap → state.Heap
heap_of heap = record { objects = map plain_object heap.objects.items; environments = map plain_environment heap.environments.items }
