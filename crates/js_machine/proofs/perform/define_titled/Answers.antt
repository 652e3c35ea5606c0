use Rattle.std.proofs.Common.{ap, ◌∙◌}
use Rattle.std.proofs.lemmas.Result.{IfOk-weaker}
use Rattle.js_heap.specs.Heap.{heap_of}
use Rattle.js_value.specs.Objects as objects
use Rattle.js_meaning.specs.Meaning as M
use Rattle.js_machine.specs.private.Config.{view_of, control_comp, units_of}
use Rattle.js_machine.proofs.Acts.{acts, both}
use Rattle.js_machine.proofs.Told.{units_told}
use Rattle.js_machine.proofs.perform.define_titled.Goals as goal

pub returns-clause-means : goal.returns-clause-means
returns-clause-means c = IfOk-weaker c.define.result _ _ (λ control w p.
    acts c.args.heap.now c.define.new.heap (objects.define c.args.object.index (objects.assigned (units_of (view_of p c.args.code.now.nodes) c.args.key) c.args.value)) (λ h. M.done) (control_comp (view_of p c.args.code.now.nodes) control)
    (w.0 ∙ ap (λ us. objects.define c.args.object.index (objects.assigned us c.args.value) (heap_of c.args.heap.now)) (c.in_ok-key.ensures ∙ units_told p c.args.code.now.nodes c.args.key)) (w.1 (view_of p c.args.code.now.nodes)))
    (both c.define.result _ _ c.define.ensures.after c.define.ensures.means)
