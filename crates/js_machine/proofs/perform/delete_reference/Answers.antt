use Rattle.std.proofs.Common.{true, refl, ap, ◌∙◌}
use Rattle.std.proofs.lemmas.Result.{IfOk-weaker}
use Rattle.js_value.specs.Members.{delete_member}
use Rattle.js_heap.specs.Heap.{heap_of}
use Rattle.js_meaning.specs.Meaning as M
use Rattle.js_machine.specs.private.Config.{view_of, control_comp, key_of}
use Rattle.js_machine.proofs.Acts.{acts, same_comp, both}
use Rattle.js_machine.proofs.Told.{key_told}
use Rattle.js_machine.proofs.perform.delete_reference.Goals as goal

pub returns-in-Name-clause-means : goal.returns-in-Name-clause-means
returns-in-Name-clause-means c = λ p. rw c.in-Name.is (same_comp c.args.heap.now _ _ refl)

pub returns-in-Ok-clause-means : goal.returns-in-Ok-clause-means
returns-in-Ok-clause-means c = IfOk-weaker c.delete-control.result _ _ (λ control w p.
    let key = c.in-Ok.ensures ∙ key_told p c.args.code.now.nodes c.in-Member.key in
    rw c.in-Member.is (acts c.args.heap.now c.delete-control.new.heap (λ h. (delete_member c.in-Member.base (key_of (view_of p c.args.code.now.nodes) c.in-Member.key) h).heap)
    (λ h. M.unless_halted (delete_member c.in-Member.base (key_of (view_of p c.args.code.now.nodes) c.in-Member.key) h).halt (M.truth true)) (control_comp (view_of p c.args.code.now.nodes) control)
    (w.0 ∙ ap (λ k. (delete_member c.in-Member.base k (heap_of c.args.heap.now)).heap) key)
    (w.1 (view_of p c.args.code.now.nodes) ∙ ap (λ k. M.unless_halted (delete_member c.in-Member.base k (heap_of c.args.heap.now)).halt (M.truth true)) key)))
    (both c.delete-control.result _ _ c.delete-control.ensures.after c.delete-control.ensures.means)
