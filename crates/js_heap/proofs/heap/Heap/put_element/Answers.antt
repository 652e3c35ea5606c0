use Rattle.std.proofs.Common.{pos, sym, ap, ◌∙◌}
use Rattle.std.specs.Prelude.{slice_set}
use Rattle.js_value.specs.Numbers.{decimal_text}
use Rattle.js_value.specs.Objects.{no_object, write_of, written, set_by}
use Rattle.js_heap.specs.Object.{plain_object}
use Rattle.js_heap.specs.Heap.{heap_of}
use Rattle.js_heap.specs.private.Object.{takes_element}
use Rattle.js_heap.proofs.Lists.{map-set_by, map-set_same, seen-at}
use Rattle.js_heap.proofs.ElementLemmas.{element_puts, put_back, put_done}
use Rattle.js_heap.proofs.heap.Heap.put_element.Goals as goal

pub returns-in-Some-clause-kept : goal.returns-in-Some-clause-kept
returns-in-Some-clause-kept c =
    let before = plain_object c.in-Some.record.now in
    put_back (takes_element before c.args.index) c.put_element.result c.args.value before (plain_object c.put_element.new.self) (record before { elements = slice_set before.elements c.args.index c.args.value }) c.put_element.ensures.answer c.put_element.ensures.after (λ kept.
    ap (λ os. record (heap_of c.args.self.now) { objects = os })
    (map-set_same plain_object c.args.self.now.objects.items _ _ c.put_element.new.self _ no_object c.index.ensures c.in-Some.ensures.item.3.0 c.in-Some.ensures.value kept))

pub returns-in-Some-clause-done : goal.returns-in-Some-clause-done
returns-in-Some-clause-done c =
    let h = heap_of c.args.self.now in
    let o = c.args.object.index in
    let before = plain_object c.in-Some.record.now in
    let at = seen-at plain_object c.args.self.now.objects.items _ o _ no_object c.index.ensures c.in-Some.ensures.item.3.0 c.in-Some.ensures.value in
    put_done (takes_element before c.args.index) c.put_element.result c.args.value before (plain_object c.put_element.new.self) (record before { elements = slice_set before.elements c.args.index c.args.value }) c.put_element.ensures.answer c.put_element.ensures.after (λ takes _.
    ap set_by (element_puts h o c.args.index c.args.value (ap (λ r. takes_element r c.args.index) (sym at) ∙ takes)))

pub returns-in-Some-clause-written : goal.returns-in-Some-clause-written
returns-in-Some-clause-written c =
    let h = heap_of c.args.self.now in
    let o = c.args.object.index in
    let v = c.args.value in
    let key = decimal_text (pos c.args.index) in
    let before = plain_object c.in-Some.record.now in
    let at = seen-at plain_object c.args.self.now.objects.items _ o _ no_object c.index.ensures c.in-Some.ensures.item.3.0 c.in-Some.ensures.value in
    put_done (takes_element before c.args.index) c.put_element.result c.args.value before (plain_object c.put_element.new.self) (record before { elements = slice_set before.elements c.args.index c.args.value }) c.put_element.ensures.answer c.put_element.ensures.after (λ takes put.
    let is = element_puts h o c.args.index v (ap (λ r. takes_element r c.args.index) (sym at) ∙ takes) in
    ap (λ os. record h { objects = os })
    (map-set_by plain_object (λ r. written r (write_of h o key v) key v) c.args.self.now.objects.items _ o c.put_element.new.self _ no_object c.index.ensures c.in-Some.ensures.item.3.0 c.in-Some.ensures.value
    (put ∙ ap (λ w. written before w key v) (sym is))))
