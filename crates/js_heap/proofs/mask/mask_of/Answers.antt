use Rattle.std.proofs.Common.{◌≡◌, ◌<◌, ap, ◌∙◌, length, map, take, subst, arith}
use Rattle.std.specs.Int.{bit_at}
use Rattle.js_heap.specs.declared.environment.Binding.{Binding}
use Rattle.js_heap.specs.private.Mask.{bit_of, IsMaskOf}
use Rattle.js_heap.proofs.MaskLemmas.{IsMaskOf-more, IsMaskOf-push}
use Rattle.js_heap.proofs.NameLemmas.{map-take_more}
use Rattle.js_heap.proofs.mask.mask_of.Goals as goal

pub loop-place-preserved : goal.loop-place-preserved
loop-place-preserved c =
    let bs = c.args.bindings.now in
    let i = c.loop-place.place in
    let x = c.index-bindings-place.result in
    let within : i < length bs = omega arith in
    let after = c.with_bit-mask.result in
    let names = map (λ (b : Binding). b.name) (take i bs) in
    let set : bit_at after (bit_of x.name) ≡ 1 = ap (λ (b : Binding). bit_at after (bit_of b.name)) c.index-bindings-place.is ∙ c.with_bit-mask.ensures.bit in
    subst (IsMaskOf after) (map-take_more (λ (b : Binding). b.name) bs i x within c.index-bindings-place.is)
    (IsMaskOf-push after names x.name (IsMaskOf-more c.loop-place.mask after names c.loop-place.invariant c.with_bit-mask.ensures.others) set)
