use Rattle.std.proofs.Common.{position, ap, ◌∙◌}
use Rattle.indexmap.specs.IndexSet.{keys}
use Rattle.std.specs.Str.{bytes_eq}
use Rattle.js_heap.proofs.ObjectLemmas.{position-keys}
use Rattle.js_heap.proofs.properties.Properties.place_of.Goals as goal

pub returns-in-Some : goal.returns-in-Some
returns-in-Some c =
    let key = c.args.key.now in
    c.get_index_of.ensures.index
    ∙ ap (λ s. position (λ k. bytes_eq key k) (keys s)) c.deref.ensures
    ∙ ap (position (λ k. bytes_eq key k)) (c.args.self.now.indexed _ c.in-Some.is)
    ∙ position-keys key c.args.self.now.items.items
