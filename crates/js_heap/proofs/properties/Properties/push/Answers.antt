use Rattle.std.proofs.Common.{◌≡◌, Bool, true, false, ◌||◌, [], ◌∷◌, ◌++◌, is_some, map, position, refl, subst, sym, ap, ◌∙◌}
use Rattle.std.specs.Str.{bytes_eq}
use Rattle.std.proofs.lemmas.List.{map-append}
use Rattle.js_value.specs.Key.{index_of}
use Rattle.js_heap.specs.declared.object.Property.{Property}
use Rattle.js_heap.specs.private.Keys.{NoIndices}
use Rattle.js_heap.proofs.IndexLemmas.{NoIndices-push, neither}
use Rattle.js_heap.proofs.properties.Properties.push.Goals as goal

pub invariant_of-self-2 : goal.invariant_of-self-2
invariant_of-self-2 c =
    let before = c.index_with.new.self in
    let key = c.args.property.key in
    let keys = map (λ (p : Property). p.key) before.items.items in
    let more : keys ++ key ∷ [] ≡ map (λ (p : Property). p.key) c.push_reserved.new.self.items =
    sym (ap (map (λ (p : Property). p.key)) c.push_reserved.ensures.items ∙ map-append (λ (p : Property). p.key) before.items.items _) in
    record {
      unindexed = λ none.
          let both = neither before.has_indices (is_some (index_of key)) (sym c.with_index-self.ensures ∙ none) in
          subst NoIndices more (NoIndices-push keys key (before.unindexed both.0) both.1);
      indexed = λ i is. c.in_ok-index.ensures.index i is ∙ ap (λ xs. map (λ (p : Property). p.key) xs.items ++ key ∷ []) (sym c.in_ok-index.ensures.items) ∙ more;
    }
