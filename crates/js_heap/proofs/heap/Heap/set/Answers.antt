use Rattle.std.proofs.Common.{◌≤◌, length, sym, subst, ap, ◌∙◌, arith}
use Rattle.js_value.specs.State.{ObjectRecord}
use Rattle.js_value.specs.Objects.{no_object, write_of, written, set_by}
use Rattle.js_heap.specs.Object.{plain_object}
use Rattle.js_heap.specs.Heap.{heap_of}
use Rattle.js_heap.specs.private.Write.{Placed}
use Rattle.js_heap.proofs.Lists.{map-set_by, map-set_same, seen-at, get_or-map_past}
use Rattle.js_heap.proofs.Outcomes.{OnOk_then, OnErr_then, IfOk_then}
use Rattle.js_heap.proofs.WriteLemmas.{performed-placed, set_answer-none}
use Rattle.js_heap.proofs.heap.Heap.set.Goals as goal

pub returns-in-Some-clause-answer : goal.returns-in-Some-clause-answer
returns-in-Some-clause-answer c = IfOk_then c.set.result c.set.ensures.answer (λ _ answer. answer ∙ ap set_by c.write_of-write.ensures.write)

pub returns-in-Some-clause-ok : goal.returns-in-Some-clause-ok
returns-in-Some-clause-ok c =
    let h = heap_of c.args.self.now in
    let o = c.args.object.index in
    let key = c.args.name.now in
    let v = c.args.value in
    let before = plain_object c.in-Some.record.now in
    let at = seen-at plain_object c.args.self.now.objects.items _ o _ no_object c.index.ensures c.in-Some.ensures.item.3.0 c.in-Some.ensures.value in
    let placed = subst (λ (r : ObjectRecord). Placed c.write_of-write.result key r.properties) (sym at) c.write_of-write.ensures.place in
    OnOk_then c.set.result c.set.ensures.ok (λ done.
    ap (λ os. record h { objects = os })
    (map-set_by plain_object (λ r. written r (write_of h o key v) key v) c.args.self.now.objects.items _ o c.set.new.self _ no_object c.index.ensures c.in-Some.ensures.item.3.0 c.in-Some.ensures.value
    (done ∙ performed-placed before c.write_of-write.result key v placed ∙ ap (λ w. written before w key v) c.write_of-write.ensures.write)))

pub returns-in-Some-clause-err : goal.returns-in-Some-clause-err
returns-in-Some-clause-err c =
    OnErr_then c.set.result c.set.ensures.err (λ kept.
    ap (λ os. record (heap_of c.args.self.now) { objects = os })
    (map-set_same plain_object c.args.self.now.objects.items _ _ c.set.new.self _ no_object c.index.ensures c.in-Some.ensures.item.3.0 c.in-Some.ensures.value kept))

pub returns-in-None-clause-answer : goal.returns-in-None-clause-answer
returns-in-None-clause-answer c =
    let o = c.args.object.index in
    let past : length c.args.self.now.objects.items ≤ o = omega (arith, c.in-None.ensures.item.3) in
    sym (set_answer-none (heap_of c.args.self.now) o c.args.name.now c.args.value (get_or-map_past plain_object c.args.self.now.objects.items o no_object past))
