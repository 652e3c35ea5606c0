use Rattle.std.proofs.Common.{sym, ap, ◌∙◌}
use Rattle.std.proofs.Common.{is_some}
use Rattle.js_value.specs.Running.{cached}
use Rattle.js_meaning.specs.Files as F
use Rattle.js_meaning.specs.Meaning as M
use Rattle.js_machine.specs.private.Config.{view_of, step_comp}
use Rattle.js_machine.specs.private.State.{store_in}
use Rattle.js_machine.proofs.Filed.{file_told, path_found}
use Rattle.js_machine.proofs.Natives.{is_some_index}
use Rattle.js_machine.proofs.Stores.{becomes_same, becomes_under, looks_becomes}
use Rattle.js_machine.proofs.file_actions.require_path.Goals as goal

pub returns-then-is_some : goal.returns-then-is_some
returns-then-is_some c = λ p base carries.
    rw (sym (ap is_some (c.cached.ensures base)) ∙ sym (is_some_index c.cached.result) ∙ sym c.is_some.ensures ∙ c.if-is_some.true)
    (looks_becomes (λ s. M.give (F.exports_in s.heap (cached s c.args.path.now))) _ (store_in base c.args.state.now) (c.in_ok-exports.ensures.means (view_of p c.args.code.now.nodes) base))

pub returns-in-None : goal.returns-in-None
returns-in-None c = λ p base carries.
    rw (
      sym (ap is_some (c.cached.ensures base)) ∙ sym (is_some_index c.cached.result) ∙ sym c.is_some.ensures ∙ c.if-is_some.false,
      sym (file_told p c.args.path.now c.args.code.now carries.code_of) ∙ sym c.file_at.ensures ∙ c.in-None.is,
    )
    (becomes_same _ _ _ (ap (step_comp (view_of p c.args.code.now.nodes)) c.no_such_file.ensures))

pub returns-in_ok-control-in-Some : goal.returns-in_ok-control-in-Some
returns-in_ok-control-in-Some c = λ p base carries.
    let at = sym (file_told p c.args.path.now c.args.code.now carries.code_of) ∙ sym c.file_at.ensures ∙ c.in-Some.is in
    rw (sym (ap is_some (c.cached.ensures base)) ∙ sym (is_some_index c.cached.result) ∙ sym c.is_some.ensures ∙ c.if-is_some.false, at, path_found p c.args.path.now c.in-Some.file at)
    (becomes_under _ _ _ (store_in base c.args.state.now) (store_in base c.start_file.new.state) (c.in_ok-control-in-Some.ensures.becomes p base carries))
