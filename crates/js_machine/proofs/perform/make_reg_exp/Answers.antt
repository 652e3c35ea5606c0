use Rattle.std.proofs.Common.{ap, ◌∙◌, Some}
use Rattle.js_heap.specs.Heap.{heap_of}
use Rattle.js_value.specs.Objects.{next_object, new_object}
use Rattle.js_value.specs.Realm.{number_of, object}
use Rattle.js_value.specs.State.{RegExp}
use Rattle.js_value.specs.declared.built_in.Place.TheVariants.{RegExpPrototype}
use Rattle.js_meaning.specs.Meaning as M
use Rattle.js_machine.specs.private.Config.{control_comp}
use Rattle.js_machine.proofs.Acts.{acts}
use Rattle.js_machine.proofs.perform.make_reg_exp.Goals as goal

pub returns-clause-means : goal.returns-clause-means
returns-clause-means c = λ t. acts c.args.heap.now c.object.new.self (new_object RegExp (Some (number_of RegExpPrototype))) (λ h. M.give (object (next_object h))) (control_comp t c.give_object.result)
    (c.in_ok-object.ensures.ok ∙ ap (λ n. new_object RegExp (Some n) (heap_of c.args.heap.now)) c.object_at.ensures)
    (ap (control_comp t) c.give_object.ensures ∙ ap (λ n. M.give (object n)) c.in_ok-object.ensures.object)
