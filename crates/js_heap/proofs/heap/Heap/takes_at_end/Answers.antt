use Rattle.std.proofs.Common.{sym, ap, ◌∙◌}
use Rattle.js_heap.specs.Heap.{heap_of}
use Rattle.js_heap.specs.private.Object.{ends_at}
use Rattle.js_heap.proofs.ElementLemmas.{end_appends}
use Rattle.js_heap.proofs.heap.Heap.takes_at_end.Goals as goal

pub returns-then-ends_at : goal.returns-then-ends_at
returns-then-ends_at c = λ none v.
    end_appends (heap_of c.args.self.now) c.args.object.index c.args.index v
    (ap (λ r. ends_at r c.args.index) (sym c.record.ensures) ∙ sym c.ends_at.ensures ∙ c.if-ends_at.true) (c.inherits_none.ensures none)
