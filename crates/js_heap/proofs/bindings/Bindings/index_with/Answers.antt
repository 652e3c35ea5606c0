use Rattle.std.proofs.Common.{◌≡◌, Some, length, map, sym, ap, ◌∙◌, arith}
use Rattle.std.proofs.lemmas.List.{length-map}
use Rattle.indexmap.specs.IndexMap.{get_by_text}
use Rattle.js_heap.specs.private.Bindings.{IsIndexOf}
use Rattle.js_heap.specs.declared.environment.Binding.{Binding}
use Rattle.js_heap.proofs.NameLemmas.{IsIndexOf-push}
use Rattle.js_heap.proofs.Outcomes.{IfOk_mapped}
use Rattle.js_heap.proofs.bindings.Bindings.index_with.Goals as goal

pub returns-in-Some-clause-index : goal.returns-in-Some-clause-index
returns-in-Some-clause-index c =
    let bs = c.args.self.now.items.items in
    let names = map (λ (b : Binding). b.name) bs in
    let all : c.len-place.result ≡ length bs = omega (arith, c.args.self.now.items.ok) in
    let last : c.len-place.result ≡ length names = all ∙ sym (length-map bs (λ (b : Binding). b.name)) in
    IfOk_mapped c.with_name.result c.map.result Some c.map.ensures.cases c.with_name.ensures (λ made given is from x told q.
    let same : made ≡ x = cc in
    ap (λ b. get_by_text b.value q) (sym same)
    ∙ IsIndexOf-push (get_by_text c.in-Some.index.value) (get_by_text made.value) names c.args.name.now c.len-place.result
    (c.args.self.now.indexed c.in-Some.index (sym c.in-Some.ensures.value)) last is q)

pub returns-clause-index : goal.returns-clause-index
returns-clause-index c =
    let bs = c.args.self.now.items.items in
    let names = map (λ (b : Binding). b.name) bs in
    let all : c.len-place.result ≡ length bs = omega (arith, c.args.self.now.items.ok) in
    let last : c.len-place.result ≡ length names = all ∙ sym (length-map bs (λ (b : Binding). b.name)) in
    let before : IsIndexOf (get_by_text c.in_ok-index.index.value) names = rw c.as_slice.ensures.value at c.in_ok-index.ensures in
    IfOk_mapped c.with_name-2.result c.map-2.result Some c.map-2.ensures.cases c.with_name-2.ensures (λ made given is from x told q.
    let same : made ≡ x = cc in
    ap (λ b. get_by_text b.value q) (sym same)
    ∙ IsIndexOf-push (get_by_text c.in_ok-index.index.value) (get_by_text made.value) names c.args.name.now c.len-place.result before last is q)
