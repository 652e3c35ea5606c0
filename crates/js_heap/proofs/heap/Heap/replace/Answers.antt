use Rattle.std.proofs.Common.{ap}
use Rattle.js_value.specs.State as state
use Rattle.js_value.specs.Objects.{no_object}
use Rattle.js_heap.specs.Object.{plain_object}
use Rattle.js_heap.specs.Heap.{heap_of}
use Rattle.js_heap.proofs.Lists.{map-set_by}
use Rattle.js_heap.proofs.heap.Heap.replace.Goals as goal

pub returns-in-Some-clause-ok : goal.returns-in-Some-clause-ok
returns-in-Some-clause-ok c =
    ap (λ os. record (heap_of c.args.self.now) { objects = os })
    (map-set_by plain_object (λ (o : state.ObjectRecord). record o { elements = c.args.elements }) c.args.self.now.objects.items _ _ _ _ no_object c.index.ensures c.in-Some.ensures.item.3.0 c.in-Some.ensures.value
    (ap (λ es. record (plain_object c.in-Some.record.now) { elements = es }) c.new-elements.ensures))
