use Rattle.std.proofs.Common.{ap, ◌∙◌}
use Rattle.std.proofs.lemmas.Result.{IfOk-weaker}
use Rattle.std.specs.Prelude.{option_and_then}
use Rattle.js_value.specs.Requiring.{required_from}
use Rattle.js_machine.proofs.Filed.{required}
use Rattle.js_machine.proofs.file_actions.required_path.Goals as goal

pub returns-in-None : goal.returns-in-None
returns-in-None c = λ base. ap (option_and_then (λ path. required_from path c.args.units.now)) (c.in-None.ensures base)

pub returns-in-Ok : goal.returns-in-Ok
returns-in-Ok c = IfOk-weaker c.resolve.result _ _ (λ path is base. is ∙ required c.in-Some.from.now c.args.units.now c.as_slice.result.now c.as_str.result.now _ c.as_slice.ensures
    (rw c.in-Ok.is at c.in_ok-specifier-in-Some.ensures.unpaired) (c.as_str.ensures.value ∙ rw c.in-Ok.is at c.in_ok-specifier-in-Some.ensures.chars) (c.in-Some.ensures base)) c.resolve.ensures
