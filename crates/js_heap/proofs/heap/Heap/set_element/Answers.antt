use Rattle.std.proofs.Common.{◌≡◌, refl, pos, ap, ◌∙◌}
use Rattle.js_value.specs.Numbers.{decimal_text}
use Rattle.js_value.specs.Objects.{set, set_answer}
use Rattle.js_heap.specs.Heap.{heap_of}
use Rattle.js_heap.proofs.Outcomes.{OnOk_then, IfOk_then}
use Rattle.js_heap.proofs.ElementLemmas.{back_is}
use Rattle.js_heap.proofs.heap.Heap.set_element.Goals as goal

pub returns-in-Some-clause-answer : goal.returns-in-Some-clause-answer
returns-in-Some-clause-answer c =
    let o = c.args.object.index in
    let key = decimal_text (pos c.args.index) in
    let back : c.in-Some.value ≡ c.args.value = back_is _ _ _ _ c.in-Some.ensures.answer refl in
    IfOk_then c.set_new_element.result c.set_new_element.ensures.answer (λ answer is. is ∙ ap (λ h. set_answer h o key c.in-Some.value) c.in-Some.ensures.kept ∙ ap (set_answer (heap_of c.args.self.now) o key) back)

pub returns-in-Some-clause-ok : goal.returns-in-Some-clause-ok
returns-in-Some-clause-ok c =
    let o = c.args.object.index in
    let key = decimal_text (pos c.args.index) in
    let back : c.in-Some.value ≡ c.args.value = back_is _ _ _ _ c.in-Some.ensures.answer refl in
    OnOk_then c.set_new_element.result c.set_new_element.ensures.ok (λ done. done ∙ ap (set o key c.in-Some.value) c.in-Some.ensures.kept ∙ ap (λ v. set o key v (heap_of c.args.self.now)) back)
