use Rattle.std.proofs.Common.{sym, ap}
use Rattle.std.proofs.lemmas.Result.{IfOk-weaker}
use Rattle.js_machine.specs.declared.data.Step.TheVariants as step
use Rattle.js_machine.specs.private.Config.{view_of, step_comp}
use Rattle.js_machine.proofs.Stores.{becomes_same}
use Rattle.js_machine.proofs.enter.hand_object.Goals as goal

pub returns-in-Written : goal.returns-in-Written
returns-in-Written c = λ p base carries. rw (sym c.kind.ensures, c.in-Written.is) (becomes_same _ _ _ (c.call_function.ensures p carries.code_of))

pub returns-in-BuiltIn : goal.returns-in-BuiltIn
returns-in-BuiltIn c = IfOk-weaker c.hand_built_in.result _ _ (λ step becomes p base carries. rw (sym c.kind.ensures, c.in-BuiltIn.is) (becomes p base carries)) c.hand_built_in.ensures

pub returns-in-Plain : goal.returns-in-Plain
returns-in-Plain c = λ p base carries. rw (sym c.kind.ensures, c.in-Plain.is) (becomes_same _ _ _ (ap (λ control. step_comp (view_of p c.args.code.now.nodes) (step.Go control)) c.not_a_function.ensures))

pub returns-in-Array : goal.returns-in-Array
returns-in-Array c = λ p base carries. rw (sym c.kind.ensures, c.in-Array.is) (becomes_same _ _ _ (ap (λ control. step_comp (view_of p c.args.code.now.nodes) (step.Go control)) c.not_a_function-in-Array.ensures))

pub returns-in-Error : goal.returns-in-Error
returns-in-Error c = λ p base carries. rw (sym c.kind.ensures, c.in-Error.is) (becomes_same _ _ _ (ap (λ control. step_comp (view_of p c.args.code.now.nodes) (step.Go control)) c.not_a_function-in-Error.ensures))

pub returns-in-RegExp : goal.returns-in-RegExp
returns-in-RegExp c = λ p base carries. rw (sym c.kind.ensures, c.in-RegExp.is) (becomes_same _ _ _ (ap (λ control. step_comp (view_of p c.args.code.now.nodes) (step.Go control)) c.not_a_function-in-RegExp.ensures))
