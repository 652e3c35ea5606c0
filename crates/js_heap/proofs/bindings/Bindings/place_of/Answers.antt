use Rattle.std.proofs.Common.{◌≡◌, sym, ap, ◌∙◌, arith}
use Rattle.std.specs.Int.{bit_at}
use Rattle.std.proofs.lemmas.Bool.Decides.{nat_tests}
use Rattle.std.specs.Str.{bytes_eq}
use Rattle.indexmap.specs.IndexMap.{get_by_text}
use Rattle.js_heap.specs.declared.environment.Binding.{Binding}
use Rattle.js_heap.specs.private.Mask.{bit_of}
use Rattle.js_heap.proofs.Lists.{position-map}
use Rattle.js_heap.proofs.bindings.Bindings.place_of.Goals as goal

pub returns-then-lacks : goal.returns-then-lacks
returns-then-lacks c =
    let name = c.args.name.now in
    let absent : bit_at c.args.self.now.mask (bit_of name) ≡ 0 = grind (arith, nat_tests, c.lacks.ensures, c.if-lacks.true) in
    sym (c.args.self.now.masked name absent) ∙ position-map (λ n. bytes_eq n name) (λ (b : Binding). b.name) c.args.self.now.items.items

pub returns-in-Some : goal.returns-in-Some
returns-in-Some c =
    let name = c.args.name.now in
    c.copied.ensures ∙ c.get.ensures.value
    ∙ ap (λ m. get_by_text m c.as_str.result.now) c.deref.ensures ∙ ap (get_by_text c.in-Some.index.value) c.as_str.ensures
    ∙ c.args.self.now.indexed c.in-Some.index c.in-Some.is name
    ∙ position-map (λ n. bytes_eq n name) (λ (b : Binding). b.name) c.args.self.now.items.items
