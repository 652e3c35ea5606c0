use Rattle.std.proofs.Common.{List, ℕ, not, ap, ◌∙◌, filter, rules}
use Rattle.std.specs.Str.{bytes_eq}
use Rattle.std.proofs.lemmas.Fn.{filter_same}
use Rattle.indexmap.specs.IndexSet.{keys}
use Rattle.js_heap.proofs.properties.without_key.Goals as goal

pub returns : goal.returns
returns c =
    let key = c.args.key.now in
    filter_same _ (λ (k : List ℕ). not (bytes_eq k key)) _ (λ x b f t. search rules) _ _ c.retain.ensures.filtered
    ∙ ap (λ s. filter (λ (k : List ℕ). not (bytes_eq k key)) (keys s)) c.deref_mut.ensures.value
