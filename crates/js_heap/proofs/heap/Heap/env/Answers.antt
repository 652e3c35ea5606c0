use Rattle.std.proofs.Common.{ap}
use Rattle.js_heap.specs.Environment.{plain_environment}
use Rattle.js_heap.specs.Heap.{heap_of}
use Rattle.js_heap.proofs.Lists.{map-push}
use Rattle.js_heap.proofs.heap.Heap.env.Goals as goal

pub returns-clause-ok : goal.returns-clause-ok
returns-clause-ok c =
    ap (λ es. record (heap_of c.args.self.now) { environments = es })
    (map-push plain_environment c.args.self.now.environments.items c.push.new.self.items c.new.result _ c.in_ok-push.ensures.items c.new.ensures)
