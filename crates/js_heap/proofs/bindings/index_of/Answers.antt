use Rattle.std.proofs.Common.{◌<◌, ◌≤◌, length, map, take, position, ap, ◌∙◌, arith}
use Rattle.std.specs.Str.{bytes_eq}
use Rattle.indexmap.specs.IndexMap.{get_by_text}
use Rattle.js_heap.specs.declared.environment.Binding.{Binding}
use Rattle.js_heap.proofs.NameLemmas.{IsIndexOf-push, map-take_more, length-map_take}
use Rattle.js_heap.proofs.bindings.index_of.Goals as goal

pub loop-place-preserved : goal.loop-place-preserved
loop-place-preserved c =
    let bs = c.args.bindings.now in
    let i = c.loop-place.place in
    let x = c.index-bindings-place.result in
    let within : i < length bs = omega arith in
    let before : i ≤ length bs = omega arith in
    λ q. IsIndexOf-push (get_by_text c.loop-place.index.value) (get_by_text c.in_ok-index-2.index.value) (map (λ (b : Binding). b.name) (take i bs)) x.name i
    c.loop-place.invariant (length-map_take (λ (b : Binding). b.name) bs i before) c.in_ok-index-2.ensures q
    ∙ ap (position (λ n. bytes_eq n q)) (map-take_more (λ (b : Binding). b.name) bs i x within c.index-bindings-place.is)
