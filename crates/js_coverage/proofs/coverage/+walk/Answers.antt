use Rattle.std.proofs.Common.{◌∙◌}
use Rattle.std.proofs.lemmas.Result.{IfOk-weaker}
use Rattle.js_heap.specs.Heap.{heap_of}
use Rattle.js_coverage.proofs.Levels.{level_down}
use Rattle.js_coverage.proofs.coverage.+walk.Goals as goal

pub object_within-returns : goal.object_within-returns
object_within-returns t c = IfOk-weaker c.object_data.result _ _
    (λ tree is. is ∙ level_down (heap_of c.args.heap.now) c.args.levels c.args.object.index c.if-levels-eq0.false) c.object_data.ensures
