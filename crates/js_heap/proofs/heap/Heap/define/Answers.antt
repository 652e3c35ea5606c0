use Rattle.std.proofs.Common.{ap, ◌∙◌}
use Rattle.js_value.specs.Objects.{no_object}
use Rattle.js_heap.specs.Object.{plain_object, property_with}
use Rattle.js_heap.specs.Heap.{heap_of}
use Rattle.js_heap.specs.private.Object.{with_defined}
use Rattle.js_heap.proofs.Lists.{map-set_by, map-set_same}
use Rattle.js_heap.proofs.Outcomes.{OnOk_then, OnErr_then}
use Rattle.js_heap.proofs.heap.Heap.define.Goals as goal

pub returns-in-Some-clause-ok : goal.returns-in-Some-clause-ok
returns-in-Some-clause-ok c =
    OnOk_then c.define.result c.define.ensures.ok (λ defined.
    ap (λ os. record (heap_of c.args.self.now) { objects = os })
    (map-set_by plain_object (with_defined (property_with c.args.name.now c.args.value c.args.flags)) c.args.self.now.objects.items _ _ _ _ no_object c.index.ensures c.in-Some.ensures.item.3.0 c.in-Some.ensures.value
    (ap (λ ps. record (plain_object c.in-Some.record.now) { properties = ps }) defined ∙ ap (λ p. with_defined p (plain_object c.in-Some.record.now)) c.in_ok-property.ensures)))

pub returns-in-Some-clause-err : goal.returns-in-Some-clause-err
returns-in-Some-clause-err c =
    OnErr_then c.define.result c.define.ensures.err (λ kept.
    ap (λ os. record (heap_of c.args.self.now) { objects = os })
    (map-set_same plain_object c.args.self.now.objects.items _ _ _ _ no_object c.index.ensures c.in-Some.ensures.item.3.0 c.in-Some.ensures.value
    (ap (λ ps. record (plain_object c.in-Some.record.now) { properties = ps }) kept)))
