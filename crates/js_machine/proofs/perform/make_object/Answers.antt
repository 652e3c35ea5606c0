use Rattle.std.proofs.Common.{ap, ◌∙◌, Some}
use Rattle.js_heap.specs.Heap.{heap_of}
use Rattle.js_value.specs.Objects.{next_object, new_object}
use Rattle.js_value.specs.Realm.{number_of}
use Rattle.js_value.specs.State.{Plain}
use Rattle.js_value.specs.declared.built_in.Place.TheVariants.{ObjectPrototype}
use Rattle.js_code.specs.Part.{as_properties}
use Rattle.js_meaning.specs.Meaning as M
use Rattle.js_machine.specs.declared.data.Control.{Control}
use Rattle.js_machine.specs.declared.data.Control.TheVariants as control
use Rattle.js_machine.specs.declared.data.Task.TheVariants as task
use Rattle.js_machine.specs.private.Config.{control_comp}
use Rattle.js_machine.proofs.Acts.{acts}
use Rattle.js_machine.proofs.perform.make_object.Goals as goal

pub returns-clause-means : goal.returns-clause-means
returns-clause-means c = λ t.
    let next : Control = control.Begin (task.DefineAll c.args.properties c.args.env c.in_ok-object.object) in
    acts c.args.heap.now c.object.new.self (new_object Plain (Some (number_of ObjectPrototype))) (λ h. M.comp_properties t.program (as_properties (t.tree c.args.properties)) c.args.env.index (next_object h)) (control_comp t next)
    (c.in_ok-object.ensures.ok ∙ ap (λ n. new_object Plain (Some n) (heap_of c.args.heap.now)) c.object_at.ensures)
    (ap (M.comp_properties t.program (as_properties (t.tree c.args.properties)) c.args.env.index) c.in_ok-object.ensures.object)
