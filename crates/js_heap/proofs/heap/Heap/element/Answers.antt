use Rattle.std.proofs.Common.{Option, None, Some, IfSome, pos, sym, ap, ◌∙◌, ◌≡◌}
use Rattle.std.specs.Option.{option_copied}
use Rattle.std.specs.Borrow.{Bor}
use Rattle.js_value.specs.declared.value.Value.{Value}
use Rattle.js_value.specs.Objects.{object_at, get}
use Rattle.js_value.specs.Numbers.{decimal_text}
use Rattle.js_heap.specs.Heap.{heap_of}
use Rattle.js_heap.specs.private.Object.{element_in}
use Rattle.js_heap.proofs.ElementLemmas.{element_gets}
use Rattle.js_heap.proofs.heap.Heap.element.Goals as goal

-- of a value that is lent, what holds of the value
lent : (r : Option (Bor Value)) (x : Option Value) (P : Value → Type 0) → option_copied r ≡ x → ((v : Value) → x ≡ Some v → P v) → IfSome r (λ b. P b.now)
lent None x P e k = tt
lent (Some b) x P e k = k b.now (sym e)

pub returns-clause-property : goal.returns-clause-property
returns-clause-property c =
    let h = heap_of c.args.self.now in
    let o = c.args.object.index in
    let n = c.args.index in
    let is : option_copied c.element.result ≡ element_in (object_at h o) n = c.element.ensures ∙ ap (λ object. element_in object n) c.record.ensures in
    lent c.element.result (element_in (object_at h o) n) (λ v. get h o (decimal_text (pos n)) ≡ Some v) is (element_gets h o n)
