use Rattle.std.proofs.Common.{◌≡◌, drop, map}
use Rattle.js_heap.specs.Heap.{heap_of}
use Rattle.js_value.specs.Environments.{declare_all}
use Rattle.js_value.specs.Realm.{undefined}
use Rattle.js_meaning.specs.Scopes.{variable_of}
use Rattle.js_machine.proofs.scopes.declare_variables.Given as goal

abbrev pub invariant-loop-name : goal.invariant-loop-name
invariant-loop-name l = declare_all l.env.index (map (variable_of undefined) (drop l.name-index l.names)) (heap_of l.heap) ≡ declare_all l.env.index (map (variable_of undefined) l.names) (heap_of l.fn.heap)
