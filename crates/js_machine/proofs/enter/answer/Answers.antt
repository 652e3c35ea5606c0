use Rattle.std.proofs.Common.{sym}
use Rattle.std.proofs.lemmas.Result.{IfOk-weaker}
use Rattle.js_meaning.specs.Files as F
use Rattle.js_meaning.specs.Meaning as M
use Rattle.js_machine.proofs.Natives.{native_else}
use Rattle.js_machine.proofs.enter.answer.Goals as goal

pub returns-in-Enter : goal.returns-in-Enter
returns-in-Enter c = rw c.in-Enter.is c.hand_on.ensures

pub returns-in_default : goal.returns-in_default
returns-in_default c = IfOk-weaker c.answer_directly.result _ _ (λ step becomes p base carries.
    rw (sym (native_else p (F.hand_on p) (λ f t vs. M.done) c.args.callee.index c.args.native c.in_default.not-Enter)) (becomes p base carries)) c.answer_directly.ensures
