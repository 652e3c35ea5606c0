use Rattle.std.proofs.Common.{ap}
use Rattle.js_value.specs.Environments.{no_environment}
use Rattle.js_heap.specs.Environment.{plain_environment}
use Rattle.js_heap.specs.Heap.{heap_of}
use Rattle.js_heap.specs.private.Environment.{with_initialized}
use Rattle.js_heap.proofs.Lists.{map-set_by}
use Rattle.js_heap.proofs.heap.Heap.init.Goals as goal

pub returns-in-Some : goal.returns-in-Some
returns-in-Some c =
    ap (λ es. record (heap_of c.args.self.now) { environments = es })
    (map-set_by plain_environment (with_initialized c.args.cell.place c.args.value) c.args.self.now.environments.items _ _ _ _ no_environment c.index.ensures c.in-Some.ensures.item.3.0 c.in-Some.ensures.value
    (ap (λ bs. record (plain_environment c.in-Some.environment.now) { bindings = bs }) c.init.ensures))
