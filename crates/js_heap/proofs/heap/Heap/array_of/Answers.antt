use Rattle.std.proofs.Common.{List, [], Some, false, ap, ◌∙◌}
use Rattle.js_value.specs.declared.value.Value.{Value}
use Rattle.js_value.specs.State as state
use Rattle.js_heap.specs.Object.{plain_object}
use Rattle.js_heap.specs.Heap.{heap_of}
use Rattle.js_heap.proofs.Lists.{map-push}
use Rattle.js_heap.proofs.heap.Heap.array_of.Goals as goal

pub returns-clause-ok : goal.returns-clause-ok
returns-clause-ok c =
    let array : List Value → state.ObjectRecord = λ elements. record { kind = state.Array; prototype = Some c.args.prototype.index; frozen = false; elements = elements; properties = [] } in
    ap (λ os. record (heap_of c.args.self.now) { objects = os })
    (map-push plain_object c.args.self.now.objects.items c.push.new.self.items c.array.result _ c.in_ok-push.ensures.items (c.array.ensures ∙ ap array c.new-elements.ensures))
