use Rattle.std.proofs.Common.{◌≡◌, sym, subst}
use Rattle.std.proofs.Common.{OnOk, map}
use Rattle.js_heap.specs.Heap.{heap_of}
use Rattle.js_heap.specs.Environment.{plain_binding}
use Rattle.js_meaning.proofs.PointLemmas.{scope_is}
use Rattle.js_machine.proofs.scopes.make_scope.Goals as goal

pub returns-clause-made : goal.returns-clause-made
returns-clause-made c = subst (λ g. OnOk c.scope.result (heap_of c.scope.new.self ≡ g)) (sym (scope_is (map plain_binding c.args.names) c.args.env.index (heap_of c.args.heap.now))) c.scope.ensures.ok
