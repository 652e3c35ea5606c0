use Rattle.std.proofs.Common.{◌≡◌, [], ◌∷◌, ◌++◌, map, position, subst, sym, ap, ◌∙◌}
use Rattle.std.specs.Str.{bytes_eq}
use Rattle.std.proofs.lemmas.List.{map-append}
use Rattle.js_heap.specs.declared.environment.Binding.{Binding}
use Rattle.js_heap.specs.private.Mask.{IsMaskOf}
use Rattle.js_heap.proofs.MaskLemmas.{IsMaskOf-more, IsMaskOf-push}
use Rattle.js_heap.proofs.bindings.Bindings.push.Goals as goal

pub invariant_of-self-2 : goal.invariant_of-self-2
invariant_of-self-2 c =
    let before = c.index_with.new.self in
    let old = before.items.items in
    let after = c.with_bit-self.result in
    let name = c.args.binding.name in
    let names : map (λ (b : Binding). b.name) old ++ name ∷ [] ≡ map (λ (b : Binding). b.name) c.push_reserved.new.self.items =
    sym (ap (map (λ (b : Binding). b.name)) c.push_reserved.ensures.items ∙ map-append (λ (b : Binding). b.name) old _) in
    let mask = IsMaskOf-more before.mask after (map (λ (b : Binding). b.name) old) before.masked c.with_bit-self.ensures.others in
    record {
      masked = subst (IsMaskOf after) names (IsMaskOf-push after (map (λ (b : Binding). b.name) old) name mask c.with_bit-self.ensures.bit);
      indexed = λ i is q. c.in_ok-index.ensures.index i is q ∙ ap (λ xs. position (λ n. bytes_eq n q) (map (λ (b : Binding). b.name) xs.items ++ name ∷ [])) (sym c.in_ok-index.ensures.items) ∙ ap (position (λ n. bytes_eq n q)) names;
    }
