use Rattle.std.proofs.Common.{◌≡◌, take, map}
use Rattle.js_heap.specs.Environment.{plain_binding}
use Rattle.js_heap.proofs.environment.copies.Given as goal

abbrev pub invariant-loop-binding : goal.invariant-loop-binding
invariant-loop-binding l = map plain_binding l.made.items ≡ map plain_binding (take l.binding-index l.bindings)
