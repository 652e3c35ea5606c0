use Rattle.std.proofs.Common.{◌≡◌, ◌++◌, map, drop}
use Rattle.js_heap.specs.Environment.{plain_binding}
use Rattle.js_machine.proofs.scopes.put_lexical.Given as goal

abbrev pub invariant-loop-name : goal.invariant-loop-name
invariant-loop-name l = map plain_binding l.names ++ drop l.name-index l.more ≡ map plain_binding l.fn.names ++ l.more
