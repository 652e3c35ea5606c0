use Rattle.std.proofs.Common.{ap}
use Rattle.js_heap.specs.Object.{plain_object}
use Rattle.js_heap.specs.Heap.{heap_of}
use Rattle.js_heap.proofs.Lists.{map-push}
use Rattle.js_heap.proofs.heap.Heap.object.Goals as goal

pub returns-clause-ok : goal.returns-clause-ok
returns-clause-ok c =
    ap (λ os. record (heap_of c.args.self.now) { objects = os })
    (map-push plain_object c.args.self.now.objects.items c.push.new.self.items c.new.result _ c.in_ok-push.ensures.items c.new.ensures)
