use Rattle.std.proofs.Common.{sym, ap, ◌∙◌}
use Rattle.std.proofs.lemmas.Result.{IfOk-weaker}
use Rattle.js_meaning.specs.Meaning as M
use Rattle.js_value.specs.Objects.{next_object}
use Rattle.js_value.specs.Functions.{instance_made}
use Rattle.js_value.specs.Realm.{object}
use Rattle.js_host.specs.Iteration.{plain_iteration}
use Rattle.js_code.specs.Part.{as_stmt}
use Rattle.js_meaning.specs.Effects.{handle}
use Rattle.js_meaning.specs.Files as F
use Rattle.js_meaning.specs.Program.{function_at}
use Rattle.js_machine.specs.private.Config.{view_of, labels_of, step_comp}
use Rattle.js_machine.proofs.Acts.{acts}
use Rattle.js_machine.proofs.Stores.{becomes_same, heap_becomes}
use Rattle.std.proofs.Common.{subst, option_map}
use Rattle.js_value.specs.declared.value.Object.{Object}
use Rattle.js_machine.specs.private.State.{store_in, Becomes}
use Rattle.js_machine.proofs.Natives.{built_in_entry}
use Rattle.js_machine.proofs.enter.enter.Goals as goal

pub returns-in-Turn : goal.returns-in-Turn
returns-in-Turn c = λ p base carries. rw c.in-Turn.is (becomes_same _ _ _ (c.begin_turn.ensures (view_of p c.args.code.now.nodes) c.node.ensures.read
    ∙ ap (λ x. M.comp_turn p (as_stmt x) (labels_of (view_of p c.args.code.now.nodes) c.in-Turn.labels) c.in-Turn.env.index) (sym c.node.ensures.read)))

pub returns-in-Pass : goal.returns-in-Pass
returns-in-Pass c = IfOk-weaker c.begin_pass.result _ _ (λ step means p base carries. rw c.in-Pass.is (becomes_same _ _ _ (means (view_of p c.args.code.now.nodes) c.node-in-Pass.ensures.read
    ∙ ap (λ x. M.comp_pass p (as_stmt x) (labels_of (view_of p c.args.code.now.nodes) c.in-Pass.labels) c.in-Pass.env.index c.in-Pass.inner.index (plain_iteration c.in-Pass.rest)) (sym c.node-in-Pass.ensures.read)))) c.begin_pass.ensures

pub returns-in-Call : goal.returns-in-Call
returns-in-Call c = λ p base carries. rw c.in-Call.is (becomes_same _ _ _ (c.call_function.ensures p carries.code_of))

pub returns-in_ok-made-in-New : goal.returns-in_ok-made-in-New
returns-in_ok-made-in-New c = λ p base carries. rw c.in-New.is (heap_becomes _ _ c.args.state.now c.make_instance.new.heap base
    (acts c.args.state.now.heap c.make_instance.new.heap (instance_made c.in-New.maker.index)
    (λ h. handle (F.comp_coded p (function_at p c.in-New.number) c.in-New.environment.index (object (next_object h)) c.in-New.arguments) (F.after_construct (next_object h)))
    (step_comp (view_of p c.args.code.now.nodes) c.call_function-in-New.result) c.in_ok-made-in-New.ensures.made
    (c.call_function-in-New.ensures p carries.code_of
    ∙ ap (λ n. handle (F.comp_coded p (function_at p c.in-New.number) c.in-New.environment.index (object n) c.in-New.arguments) (F.after_construct n)) c.in_ok-made-in-New.ensures.object)))

pub returns-in-CallBuiltIn : goal.returns-in-CallBuiltIn
returns-in-CallBuiltIn c = IfOk-weaker c.call_built_in-step.result _ _ (λ step becomes p base carries. rw c.in-CallBuiltIn.is
    (rw (sym (built_in_entry (view_of p c.args.code.now.nodes) c.in-CallBuiltIn.callee c.in-CallBuiltIn.function c.in-CallBuiltIn.maker c.in-CallBuiltIn.this c.in-CallBuiltIn.arguments))
    (subst (λ vs. Becomes (F.call_native p (F.hand_on p) c.in-CallBuiltIn.callee.index c.in-CallBuiltIn.function (option_map (λ (o : Object). o.index) c.in-CallBuiltIn.maker) c.in-CallBuiltIn.this vs)
    (store_in base c.args.state.now) (step_comp (view_of p c.args.code.now.nodes) step) (store_in base c.call_built_in-step.new.state)) c.as_slice.ensures (becomes p base carries)))) c.call_built_in-step.ensures
