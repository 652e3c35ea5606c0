use Rattle.std.proofs.Common.{◌≡◌, ◌++◌, map, drop}
use Rattle.js_heap.specs.Environment.{plain_binding}
use Rattle.js_heap.specs.Heap.{heap_of}
use Rattle.js_meaning.specs.Scopes.{first_value, variable_of}
use Rattle.js_machine.proofs.scopes.put_variables.Given as goal

abbrev pub invariant-loop-name : goal.invariant-loop-name
invariant-loop-name l = map plain_binding l.names ++ map (λ name. variable_of (first_value l.params l.env.index (heap_of l.heap) name) name) (drop l.name-index l.variables)
    ≡ map plain_binding l.fn.names ++ map (λ name. variable_of (first_value l.params l.env.index (heap_of l.heap) name) name) l.variables
