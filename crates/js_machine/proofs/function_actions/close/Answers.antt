use Rattle.std.proofs.Common.{◌≡◌}
use Rattle.std.proofs.Common.{OnOk, subst}
use Rattle.js_heap.specs.Heap.{heap_of}
use Rattle.js_value.specs.Functions.{Shape, closed}
use Rattle.js_machine.proofs.function_actions.close.Goals as goal

pub returns-clause-made : goal.returns-clause-made
returns-clause-made c = subst (λ (s : Shape). OnOk c.make_function.result (heap_of c.make_function.new.heap ≡ closed s c.args.name.now c.args.env.index (heap_of c.args.heap.now))) c.shape_at-shape.ensures c.make_function.ensures.made
