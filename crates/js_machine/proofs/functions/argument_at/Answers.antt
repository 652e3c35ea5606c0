use Rattle.std.proofs.Common.{ap, ◌∙◌}
use Rattle.std.proofs.Common.{drop}
use Rattle.std.proofs.lemmas.Result.{IfOk-weaker}
use Rattle.js_meaning.specs.Meaning as M
use Rattle.js_machine.proofs.Forms.{first_there, first_missing}
use Rattle.js_machine.proofs.functions.argument_at.Goals as goal

pub returns-then-place-values : goal.returns-then-place-values
returns-then-place-values c = IfOk-weaker c.copy.result _ _ (λ v e. e
    ∙ first_there c.as_slice-values.result.now c.args.place c.index-values-place.result c.if-place-values.true c.index-values-place.is
    ∙ ap (λ vs. M.first_or_undefined (drop c.args.place vs)) c.as_slice-values.ensures) c.copy.ensures

pub returns-else-place-values : goal.returns-else-place-values
returns-else-place-values c =
    first_missing c.as_slice-values.result.now c.args.place c.if-place-values.false ∙ ap (λ vs. M.first_or_undefined (drop c.args.place vs)) c.as_slice-values.ensures
