use Rattle.std.proofs.Common.{ap, ◌∙◌}
use Rattle.js_value.specs.Objects.{no_object, delete_from}
use Rattle.js_heap.specs.Object.{plain_object}
use Rattle.js_heap.specs.Heap.{heap_of}
use Rattle.js_heap.specs.private.Object.{with_deleted}
use Rattle.js_heap.proofs.Lists.{map-set_by, seen-at}
use Rattle.js_heap.proofs.heap.Heap.delete.Goals as goal

pub returns-in-Some-clause-answer : goal.returns-in-Some-clause-answer
returns-in-Some-clause-answer c =
    c.delete.ensures.answer
    ∙ ap (λ r. delete_from r c.args.name.now) (seen-at plain_object c.args.self.now.objects.items _ c.args.object.index _ no_object c.index.ensures c.in-Some.ensures.item.3.0 c.in-Some.ensures.value)

pub returns-in-Some-clause-after : goal.returns-in-Some-clause-after
returns-in-Some-clause-after c =
    ap (λ os. record (heap_of c.args.self.now) { objects = os })
    (map-set_by plain_object (with_deleted c.args.name.now) c.args.self.now.objects.items _ _ c.delete.new.self _ no_object c.index.ensures c.in-Some.ensures.item.3.0 c.in-Some.ensures.value c.delete.ensures.after)
