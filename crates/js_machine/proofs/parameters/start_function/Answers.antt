use Rattle.std.proofs.Common.{Ok, ap, ◌∙◌, arith}
use Rattle.js_code.specs.Code.{reader}
use Rattle.js_code.specs.Part.{as_code}
use Rattle.js_meaning.specs.Scopes.{call_made, param_names, params_of}
use Rattle.js_machine.specs.declared.data.Action.TheVariants as action
use Rattle.js_machine.specs.declared.data.Task.TheVariants as task
use Rattle.js_machine.specs.private.Config.{view_of, action_comp, call_comp, control_comp, task_comp, this_of_call}
use Rattle.js_machine.proofs.AtOnce.{some_is}
use Rattle.js_machine.proofs.Assigned.{turns_on, turns_to}
use Rattle.js_machine.proofs.Entered.{enters_within}
use Rattle.js_machine.proofs.parameters.start_function.Goals as goal

pub returns-in-Some-clause-means : goal.returns-in-Some-clause-means
returns-in-Some-clause-means c = λ p.
    let t = view_of p c.args.code.now.nodes in
    turns_on (action_comp t (action.StartCall c.args.this c.args.function c.args.env c.args.arguments)) (task_comp t (task.BindAll c.args.function c.args.arguments c.in_ok-inner.inner)) (control_comp t c.in-Some.control)
    c.args.heap.now c.start_call.new.heap c.bind_parameters.new.heap
    (enters_within (call_made (this_of_call c.args.this) (param_names (params_of (as_code (reader c.args.code.now.nodes c.args.function)))) c.args.env.index) c.in_ok-inner.inner.index
    c.args.heap.now c.start_call.new.heap (call_comp t c.args.function c.args.arguments) c.in_ok-inner.ensures.made c.in_ok-inner.ensures.environment)
    (some_is _ _ _ c.in-Some.is c.in_ok-control.ensures.turns p)

pub returns-in-Some-clause-less : goal.returns-in-Some-clause-less
returns-in-Some-clause-less c = omega (arith, some_is _ _ _ c.in-Some.is c.in_ok-control.ensures.less)

pub returns-in-None-clause-means : goal.returns-in-None-clause-means
returns-in-None-clause-means c = λ p.
    let t = view_of p c.args.code.now.nodes in
    turns_to (action_comp t (action.StartCall c.args.this c.args.function c.args.env c.args.arguments)) (task_comp t (task.BindAll c.args.function c.args.arguments c.in_ok-inner.inner))
    c.args.heap.now c.start_call.new.heap c.bind_parameters.new.heap (c.bind_parameters.ensures.none (c.in_ok-control.was ∙ ap Ok c.in-None.is))
    (enters_within (call_made (this_of_call c.args.this) (param_names (params_of (as_code (reader c.args.code.now.nodes c.args.function)))) c.args.env.index) c.in_ok-inner.inner.index
    c.args.heap.now c.start_call.new.heap (call_comp t c.args.function c.args.arguments) c.in_ok-inner.ensures.made c.in_ok-inner.ensures.environment)
