use Rattle.std.proofs.Common.{[], ◌∷◌, ap}
use Rattle.js_value.specs.Objects.{no_object}
use Rattle.js_heap.specs.Object.{plain_object}
use Rattle.js_heap.specs.private.Object.{with_more}
use Rattle.js_heap.specs.Heap.{heap_of}
use Rattle.js_heap.proofs.Lists.{map-set_by, map-set_same}
use Rattle.js_heap.proofs.Outcomes.{OnOk_then, OnErr_then}
use Rattle.js_heap.proofs.heap.Heap.append_element.Goals as goal

pub returns-in-Some-clause-ok : goal.returns-in-Some-clause-ok
returns-in-Some-clause-ok c =
    OnOk_then c.push.result c.push.ensures.ok (λ more.
    ap (λ os. record (heap_of c.args.self.now) { objects = os })
    (map-set_by plain_object (with_more (c.args.value ∷ [])) c.args.self.now.objects.items _ _ _ _ no_object c.index.ensures c.in-Some.ensures.item.3.0 c.in-Some.ensures.value
    (ap (λ es. record (plain_object c.in-Some.record.now) { elements = es }) more)))

pub returns-in-Some-clause-err : goal.returns-in-Some-clause-err
returns-in-Some-clause-err c =
    OnErr_then c.push.result c.push.ensures.err (λ kept.
    ap (λ os. record (heap_of c.args.self.now) { objects = os })
    (map-set_same plain_object c.args.self.now.objects.items _ _ _ _ no_object c.index.ensures c.in-Some.ensures.item.3.0 c.in-Some.ensures.value
    (ap (λ es. record (plain_object c.in-Some.record.now) { elements = es }) kept)))
