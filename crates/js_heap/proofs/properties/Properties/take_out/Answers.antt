use Rattle.std.proofs.Common.{◌≡◌, not, filter, map, position, sym, ap, ◌∙◌, rules}
use Rattle.std.specs.Str.{bytes_eq}
use Rattle.std.proofs.lemmas.Fn.{filter_same}
use Rattle.js_heap.specs.declared.object.Property.{Property}
use Rattle.indexmap.specs.IndexSet.{keys}
use Rattle.js_heap.proofs.IndexLemmas.{NoIndices-filter, not_both}
use Rattle.js_heap.proofs.Lists.{filter-map}
use Rattle.js_heap.proofs.properties.Properties.take_out.Goals as goal

pub invariant_of-self : goal.invariant_of-self
invariant_of-self c =
    let key = c.args.key.now in
    let ps = c.args.self.now.items.items in
    let kept = filter_same _ (λ (p : Property). not (bytes_eq p.key key)) _ (λ x b f t. search rules) _ _ c.retain.ensures.filtered in
    record {
      unindexed = λ none q is. ap (position (λ k. bytes_eq k q)) (ap (map (λ (p : Property). p.key)) kept ∙ filter-map (λ k. not (bytes_eq k key)) (λ (p : Property). p.key) ps)
          ∙ NoIndices-filter (λ k. not (bytes_eq k key)) (map (λ (p : Property). p.key) ps) (c.args.self.now.unindexed none) q is;
      indexed = λ i is.
          let same : c.without_key.result ≡ i = cc in
          ap (λ b. keys b.value) (sym same) ∙ c.without_key.ensures
          ∙ ap (filter (λ k. not (bytes_eq k key))) (c.args.self.now.indexed c.in-Some.index (sym c.in-Some.ensures.value))
          ∙ sym (filter-map (λ k. not (bytes_eq k key)) (λ (p : Property). p.key) ps)
          ∙ ap (map (λ (p : Property). p.key)) (sym kept);
    }

pub invariant_of-self-in_default : goal.invariant_of-self-in_default
invariant_of-self-in_default c =
    let key = c.args.key.now in
    let ps = c.args.self.now.items.items in
    let kept = filter_same _ (λ (p : Property). not (bytes_eq p.key key)) _ (λ x b f t. search rules) _ _ c.retain.ensures.filtered in
    record {
      unindexed = λ none q is. ap (position (λ k. bytes_eq k q)) (ap (map (λ (p : Property). p.key)) kept ∙ filter-map (λ k. not (bytes_eq k key)) (λ (p : Property). p.key) ps)
          ∙ NoIndices-filter (λ k. not (bytes_eq k key)) (map (λ (p : Property). p.key) ps) (c.args.self.now.unindexed none) q is;
      indexed = λ i is. absurd (not_both _ i is c.take-index.ensures.after);
    }

pub returns-in-Some : goal.returns-in-Some
returns-in-Some c =
    let key = c.args.key.now in
    filter_same _ (λ (p : Property). not (bytes_eq p.key key)) _ (λ x b f t. search rules) _ _ c.retain.ensures.filtered

pub returns-in_default : goal.returns-in_default
returns-in_default c =
    let key = c.args.key.now in
    filter_same _ (λ (p : Property). not (bytes_eq p.key key)) _ (λ x b f t. search rules) _ _ c.retain.ensures.filtered
