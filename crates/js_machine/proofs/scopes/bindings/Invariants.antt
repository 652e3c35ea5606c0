use Rattle.std.proofs.Common.{◌≡◌, ◌++◌, map, drop}
use Rattle.js_heap.specs.Environment.{plain_binding}
use Rattle.js_machine.proofs.scopes.bindings.Given as goal

abbrev pub invariant-loop-name : goal.invariant-loop-name
invariant-loop-name l = map plain_binding l.made ++ drop l.name-index l.names ≡ l.names
