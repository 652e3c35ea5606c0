use Rattle.std.proofs.Common.{◌≡◌, ◌++◌, map, drop}
use Rattle.js_heap.specs.Environment.{plain_binding}
use Rattle.std.proofs.Common.{false}
use Rattle.js_meaning.specs.Scopes.{uninitialized}
use Rattle.js_machine.proofs.function_actions.put_names.Given as goal

abbrev pub invariant-loop-name : goal.invariant-loop-name
invariant-loop-name l = map plain_binding l.names ++ map (uninitialized false) (drop l.name-index l.more) ≡ map plain_binding l.fn.names ++ map (uninitialized false) l.more
