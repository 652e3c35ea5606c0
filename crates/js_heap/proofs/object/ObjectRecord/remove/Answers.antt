use Rattle.std.proofs.Common.{map, ap, ◌∙◌}
use Rattle.js_heap.specs.Object.{plain_object, plain_property}
use Rattle.js_heap.proofs.ObjectLemmas.{filter-plain}
use Rattle.js_heap.proofs.object.ObjectRecord.remove.Goals as goal

pub returns : goal.returns
returns c =
    ap (λ ps. record (plain_object c.args.self.now) { properties = ps })
    (ap (map plain_property) c.remove.ensures ∙ filter-plain c.args.key.now c.args.self.now.properties.items.items)
