use Rattle.std.proofs.Common.{refl, sym, ap, ◌∙◌}
use Rattle.std.proofs.Common.{true}
use Rattle.js_heap.specs.Heap.{heap_of}
use Rattle.js_meaning.specs.Meaning as M
use Rattle.js_value.specs.Copying.{Copied}
use Rattle.js_value.specs.Members.{delete_member}
use Rattle.js_machine.proofs.Chosen.{stopped_heap, stopped_halt, halted_if}
use Rattle.js_machine.proofs.member_actions.delete.Goals as goal

pub returns-in-Ok-clause-after : goal.returns-in-Ok-clause-after
returns-in-Ok-clause-after c = ap (λ (x : Copied). x.heap) (sym c.in-Ok.ensures)

pub returns-in-Ok-clause-means : goal.returns-in-Ok-clause-means
returns-in-Ok-clause-means c = λ t. rw c.in-Ok.ensures refl

pub returns-in-Err-clause-after : goal.returns-in-Err-clause-after
returns-in-Err-clause-after c = halted_if c.halted.result c.in-Err.halt _ _ c.halted.ensures.memory c.halted.ensures.means
    (λ control n means. stopped_heap (delete_member c.args.base.now c.args.key.now (heap_of c.args.heap.now)) (heap_of c.delete_member.new.heap) c.in-Err.halt c.in-Err.ensures n)

pub returns-in-Err-clause-means : goal.returns-in-Err-clause-means
returns-in-Err-clause-means c = halted_if c.halted.result c.in-Err.halt _ _ c.halted.ensures.memory c.halted.ensures.means
    (λ control n means t. means t ∙ stopped_halt (delete_member c.args.base.now c.args.key.now (heap_of c.args.heap.now)) (heap_of c.delete_member.new.heap) c.in-Err.halt (M.truth true) c.in-Err.ensures n)
