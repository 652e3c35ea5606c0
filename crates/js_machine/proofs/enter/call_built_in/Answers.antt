use Rattle.std.proofs.Common.{◌∙◌}
use Rattle.std.proofs.lemmas.Result.{IfOk-weaker}
use Rattle.std.proofs.Common.{option_map}
use Rattle.js_value.specs.declared.value.Object.{Object}
use Rattle.js_meaning.specs.Files as F
use Rattle.js_machine.specs.private.Config.{view_of, step_comp}
use Rattle.js_machine.proofs.Natives.{is_some_index, natively}
use Rattle.js_machine.proofs.enter.call_built_in.Goals as goal

pub returns : goal.returns
returns c = IfOk-weaker c.answer.result _ _ (λ step becomes p base carries.
    natively p (F.hand_on p) c.args.callee.index c.args.function (option_map (λ (o : Object). o.index) c.args.maker) c.args.this.now c.args.arguments.now c.args.state.now
    c.is_some-constructing.result c.in_ok-native.native c.call_native.new.heap (step_comp (view_of p c.args.code.now.nodes) step) c.answer.new.state
    (c.is_some-constructing.ensures ∙ is_some_index c.args.maker) c.in_ok-native.ensures.answer c.in_ok-native.ensures.after base (becomes p base carries)) c.answer.ensures
