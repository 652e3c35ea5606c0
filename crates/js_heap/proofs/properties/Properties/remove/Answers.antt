use Rattle.std.proofs.Common.{◌≡◌, false, is_some, sym, ◌∙◌, arith}
use Rattle.js_heap.proofs.Lists.{not_there, filter-absent}
use Rattle.js_heap.proofs.ObjectLemmas.{has_key}
use Rattle.js_heap.proofs.properties.Properties.remove.Goals as goal

pub returns-else-is_some : goal.returns-else-is_some
returns-else-is_some c =
    let none : is_some c.place_of.result ≡ false = grind (arith, c.is_some.ensures, c.if-is_some.ensures, c.if-is_some.false) in
    sym (filter-absent (has_key c.args.key.now) c.args.self.now.items.items (sym c.place_of.ensures ∙ not_there c.place_of.result none))
