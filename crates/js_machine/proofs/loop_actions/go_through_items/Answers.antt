use Rattle.std.proofs.Common.{refl, ◌∙◌}
use Rattle.js_heap.specs.Heap.{heap_of}
use Rattle.js_value.specs.Iterations.{iterated}
use Rattle.js_machine.specs.private.Config.{goes_through}
use Rattle.js_machine.proofs.Chosen.{halts, halted_if}
use Rattle.js_machine.proofs.loop_actions.go_through_items.Goals as goal

pub returns-in_ok-rest-in-Ok-clause-means : goal.returns-in_ok-rest-in-Ok-clause-means
returns-in_ok-rest-in-Ok-clause-means c = λ t. rw (c.in-Ok.ensures, c.in_ok-rest-in-Ok.ensures) refl

pub returns-in-Err-clause-means : goal.returns-in-Err-clause-means
returns-in-Err-clause-means c = halted_if c.halted.result c.in-Err.halt _ _ c.halted.ensures.memory c.halted.ensures.means
    (λ control n means t. means t ∙ halts (iterated (heap_of c.args.heap.now) c.args.value.now) (goes_through t c.args.round) c.in-Err.halt c.in-Err.ensures n)
