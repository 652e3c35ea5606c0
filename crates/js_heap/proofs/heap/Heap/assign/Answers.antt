use Rattle.std.proofs.Common.{ap, ◌∙◌}
use Rattle.js_value.specs.State as state
use Rattle.js_value.specs.Environments.{no_environment, assign_to}
use Rattle.js_heap.specs.Environment.{plain_environment}
use Rattle.js_heap.specs.Heap.{heap_of}
use Rattle.js_heap.specs.private.Bindings.{binding_among}
use Rattle.js_heap.specs.private.Environment.{with_assigned}
use Rattle.js_heap.proofs.Lists.{map-set_by, seen-at}
use Rattle.js_heap.proofs.heap.Heap.assign.Goals as goal

pub returns-in-Some-clause-after : goal.returns-in-Some-clause-after
returns-in-Some-clause-after c =
    ap (λ es. record (heap_of c.args.self.now) { environments = es })
    (map-set_by plain_environment (with_assigned c.args.cell.place c.args.value) c.args.self.now.environments.items _ _ _ _ no_environment c.index.ensures c.in-Some.ensures.item.3.0 c.in-Some.ensures.value
    (ap (λ bs. record (plain_environment c.in-Some.environment.now) { bindings = bs }) c.assign.ensures.after))

pub returns-in-Some-clause-answer : goal.returns-in-Some-clause-answer
returns-in-Some-clause-answer c =
    c.assign.ensures.answer
    ∙ ap (λ (e : state.Environment). assign_to (binding_among e.bindings c.args.cell.place))
    (seen-at plain_environment c.args.self.now.environments.items _ c.args.cell.environment.index _ no_environment c.index.ensures c.in-Some.ensures.item.3.0 c.in-Some.ensures.value)
