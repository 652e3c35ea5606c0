use Rattle.std.proofs.Common.{[], ◌∷◌, ◌++◌, ap, ◌∙◌}
use Rattle.js_heap.specs.declared.object.Property.{Property}
use Rattle.js_heap.proofs.NameLemmas.{map-take_more}
use Rattle.js_heap.proofs.properties.index_of.Goals as goal

pub loop-property-preserved : goal.loop-property-preserved
loop-property-preserved c =
    let x = c.property-item.result in
    c.in_ok-more.ensures c.in-Some.more c.in-Some.is
    ∙ ap (λ ks. ks ++ x.key ∷ []) c.loop-property.invariant
    ∙ map-take_more (λ (p : Property). p.key) c.args.properties.now c.loop-property.property-index x c.loop-property-test.true c.property-item.is
