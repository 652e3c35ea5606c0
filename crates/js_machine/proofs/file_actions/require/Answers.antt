use Rattle.std.proofs.Common.{sym, ap}
use Rattle.std.proofs.lemmas.Result.{IfOk-weaker}
use Rattle.std.proofs.Common.{Some, subst}
use Rattle.js_meaning.specs.Files as F
use Rattle.js_machine.specs.private.Config.{view_of, step_comp}
use Rattle.js_machine.specs.private.State.{store_in, Becomes}
use Rattle.js_machine.proofs.Stores.{becomes_same}
use Rattle.js_machine.proofs.file_actions.require.Goals as goal

pub returns-in-None : goal.returns-in-None
returns-in-None c = λ p base carries. rw (sym (c.in_ok-required_path.ensures base), c.in-None.is) (becomes_same _ _ _ (ap (step_comp (view_of p c.args.code.now.nodes)) c.no_such_file.ensures))

pub returns-in-Some : goal.returns-in-Some
returns-in-Some c = IfOk-weaker c.require_path.result _ _ (λ step becomes p base carries.
    rw (sym (c.in_ok-required_path.ensures base), c.in-Some.is)
    (subst (λ path. Becomes (F.require_path p (store_in base c.args.state.now) (Some path)) (store_in base c.args.state.now) (step_comp (view_of p c.args.code.now.nodes) step) (store_in base c.require_path.new.state)) c.as_str.ensures.value (becomes p base carries))) c.require_path.ensures
