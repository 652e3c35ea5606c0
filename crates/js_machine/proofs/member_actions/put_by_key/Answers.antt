use Rattle.std.proofs.Common.{◌≡◌, subst}
use Rattle.std.proofs.Common.{IfOk, OnOk}
use Rattle.js_heap.specs.Heap.{heap_of}
use Rattle.js_value.specs.Members.{put_member}
use Rattle.js_value.specs.declared.value.Value.{Value}
use Rattle.js_meaning.specs.Meaning as M
use Rattle.js_machine.specs.private.Config.{View, control_comp}
use Rattle.js_machine.proofs.member_actions.put_by_key.Goals as goal

pub returns-in-Ok-clause-after : goal.returns-in-Ok-clause-after
returns-in-Ok-clause-after c = subst (λ (k : Value). OnOk c.put-control.result (heap_of c.put-control.new.heap ≡ (put_member c.args.base.now k c.args.value (heap_of c.args.heap.now)).heap)) c.in-Ok.ensures c.put-control.ensures.after

pub returns-in-Ok-clause-means : goal.returns-in-Ok-clause-means
returns-in-Ok-clause-means c = subst (λ (k : Value). IfOk c.put-control.result (λ control. (t : View) → control_comp t control ≡ M.unless_halted (put_member c.args.base.now k c.args.value (heap_of c.args.heap.now)).halt (M.give c.args.value)))
    c.in-Ok.ensures c.put-control.ensures.means
