use Rattle.std.proofs.Common.{ap, ◌∙◌}
use Rattle.js_heap.specs.Heap.{heap_of}
use Rattle.js_value.specs.Objects.{next_object, new_array}
use Rattle.js_value.specs.Realm.{number_of, object}
use Rattle.js_value.specs.declared.built_in.Place.TheVariants.{ArrayPrototype}
use Rattle.js_meaning.specs.Meaning as M
use Rattle.js_machine.specs.private.Config.{view_of, control_comp}
use Rattle.js_machine.proofs.Acts.{acts}
use Rattle.js_machine.proofs.Calls.{call_turns, construct_turns}
use Rattle.js_machine.proofs.perform.gathered.Goals as goal

pub returns-in-Call-clause-means : goal.returns-in-Call-clause-means
returns-in-Call-clause-means c = λ p of. rw c.in-Call.is (call_turns c.in-Call.callee c.in-Call.this c.args.values c.args.heap.now (control_comp (view_of p c.args.code.now.nodes) c.call.result) (c.call.ensures.means (view_of p c.args.code.now.nodes)))

pub returns-in-Construct-clause-means : goal.returns-in-Construct-clause-means
returns-in-Construct-clause-means c = λ p of. rw c.in-Construct.is (construct_turns p c.in-Construct.maker c.args.values c.args.heap.now (control_comp (view_of p c.args.code.now.nodes) c.construct.result) (c.construct.ensures.means p of))

pub returns-in_ok-array-in-Array-clause-means : goal.returns-in_ok-array-in-Array-clause-means
returns-in_ok-array-in-Array-clause-means c = λ p of. rw c.in-Array.is (acts c.args.heap.now c.array_of.new.self (new_array (number_of ArrayPrototype) c.args.values) (λ h. M.give (object (next_object h)))
    (control_comp (view_of p c.args.code.now.nodes) c.give_object.result)
    (c.in_ok-array-in-Array.ensures.ok ∙ ap (λ n. new_array n c.args.values (heap_of c.args.heap.now)) c.object_at.ensures)
    (ap (control_comp (view_of p c.args.code.now.nodes)) c.give_object.ensures ∙ ap (λ n. M.give (object n)) c.in_ok-array-in-Array.ensures.object))
