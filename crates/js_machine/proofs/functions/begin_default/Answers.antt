use Rattle.std.proofs.lemmas.Result.{IfOk-weaker}
use Rattle.std.proofs.Common.{sym, ap, ◌∙◌, arith}
use Rattle.js_meaning.specs.Meaning as M
use Rattle.js_meaning.specs.Effects.{handle}
use Rattle.std.proofs.Common.{Some, drop}
use Rattle.js_code.specs.Part.{as_params}
use Rattle.js_machine.specs.private.Config.{expr_or, plug}
use Rattle.js_machine.proofs.Forms.{given_argument, no_argument}
use Rattle.js_machine.proofs.functions.begin_default.Goals as goal

pub returns-then-is_undefined-clause-means : goal.returns-then-is_undefined-clause-means
returns-then-is_undefined-clause-means c = IfOk-weaker c.take_default.result _ _ (λ next means t. rw (no_argument c.args.value (sym c.is_undefined.ensures ∙ c.if-is_undefined.true)) (means t)) c.take_default.ensures.means

pub returns-else-is_undefined-clause-means : goal.returns-else-is_undefined-clause-means
returns-else-is_undefined-clause-means c = IfOk-weaker c.take_argument.result _ _ (λ next means t. means t ∙ ap (plug t c.args.frames.now.items) (ap (λ d. handle d (M.with_value (λ v. handle (M.initialize (t.name c.args.name) c.args.env.index v) (M.with_value (λ u.
    M.comp_params t.program (as_params (t.tree c.args.rest)) c.args.env.index (M.rest_of (drop c.args.next c.args.arguments)))))))
    (given_argument t.program (t.name c.args.name) (expr_or t (Some c.args.default)) c.args.env.index c.args.value (sym c.is_undefined.ensures ∙ c.if-is_undefined.false)))) c.take_argument.ensures.means

pub returns-then-is_undefined-clause-less : goal.returns-then-is_undefined-clause-less
returns-then-is_undefined-clause-less c = IfOk-weaker c.take_default.result _ _ (λ next weight w. omega (arith, weight w)) c.take_default.ensures.weight

pub returns-else-is_undefined-clause-less : goal.returns-else-is_undefined-clause-less
returns-else-is_undefined-clause-less c = IfOk-weaker c.take_argument.result _ _ (λ next weight w. omega (arith, weight w)) c.take_argument.ensures.weight
