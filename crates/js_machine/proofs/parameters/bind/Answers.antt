use Rattle.std.proofs.Common.{true, false, if◌then◌else◌}
use Rattle.js_value.specs.declared.deed.Complaint.TheVariants.{NotDefined}
use Rattle.js_code.specs.Code.{reader}
use Rattle.js_code.specs.Part.{as_params}
use Rattle.js_meaning.specs.Meaning as M
use Rattle.js_machine.specs.declared.at_once.Done.TheVariants as done
use Rattle.js_machine.specs.private.Config.{view_of, body_comp, control_comp}
use Rattle.js_machine.proofs.AtOnce.{done_then, gives_then}
use Rattle.js_machine.proofs.Bound.{taken_turns}
use Rattle.js_value.specs.Realm.{undefined}
use Rattle.js_machine.proofs.parameters.bind.Goals as goal

pub returns-in_ok-control-clause-turns : goal.returns-in_ok-control-clause-turns
returns-in_ok-control-clause-turns c = λ p. gives_then (M.comp_params p (as_params (reader c.args.code.now.nodes c.args.params)) c.args.env.index c.args.arguments.now) undefined (λ v. body_comp (view_of p c.args.code.now.nodes) c.args.function c.args.env.index) (control_comp (view_of p c.args.code.now.nodes) c.in_ok-control.control)
    c.args.heap.now c.take_arguments.new.heap c.enter_function.new.heap
    (taken_turns c.in_ok-take_arguments.field-0 true (M.comp_params p (as_params (reader c.args.code.now.nodes c.args.params)) c.args.env.index c.args.arguments.now) M.done (M.complain NotDefined) c.args.heap.now c.take_arguments.new.heap c.if-branch.true (c.in_ok-take_arguments.ensures p))
    (c.in_ok-control.ensures.means p)

pub returns-else-branch-clause-turns : goal.returns-else-branch-clause-turns
returns-else-branch-clause-turns c = λ p. done_then (M.comp_params p (as_params (reader c.args.code.now.nodes c.args.params)) c.args.env.index c.args.arguments.now) (done.Throws NotDefined) (λ v. body_comp (view_of p c.args.code.now.nodes) c.args.function c.args.env.index)
    c.args.heap.now c.take_arguments.new.heap
    (taken_turns c.in_ok-take_arguments.field-0 false (M.comp_params p (as_params (reader c.args.code.now.nodes c.args.params)) c.args.env.index c.args.arguments.now) M.done (M.complain NotDefined) c.args.heap.now c.take_arguments.new.heap c.if-branch.false (c.in_ok-take_arguments.ensures p))
