use Rattle.std.proofs.Common.{sym, ap, ◌∙◌, ◌+◌, drop}
use Rattle.js_heap.specs.Heap.{heap_of}
use Rattle.js_meaning.specs.Scopes.{hoisted}
use Rattle.js_machine.proofs.Pushed.{unrolled}
use Rattle.js_machine.proofs.scopes.hoist.Goals as goal

pub loop-function-preserved : goal.loop-function-preserved
loop-function-preserved c =
    ap (hoisted (drop (c.loop-function.function-index + 1) c.args.functions.now) c.args.env.index) c.in_ok-hoist_one.ensures
    ∙ ap (λ xs. hoisted xs c.args.env.index (heap_of c.loop-function.heap)) (sym (unrolled c.args.functions.now c.loop-function.function-index c.function-item.result c.loop-function-test.true c.function-item.is))
    ∙ c.loop-function.invariant
