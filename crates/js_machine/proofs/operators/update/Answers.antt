use Rattle.std.proofs.lemmas.Result.{IfOk-weaker}
use Rattle.std.proofs.Common.{refl, sym, ap, ◌∙◌, arith}
use Rattle.std.proofs.Common.{if◌then◌else◌, rules, to_z-of_z, w64}
use mir.Val.{SFits}
use Rattle.js_value.specs.UnaryOperators.{stepped}
use Rattle.js_meaning.specs.Effects.{handle}
use Rattle.js_meaning.specs.Meaning as M
use Rattle.js_machine.specs.private.Config.{reference_of, plug}
use Rattle.js_machine.proofs.operators.update.Goals as goal

pub returns-in-Ok-clause-means : goal.returns-in-Ok-clause-means
returns-in-Ok-clause-means c =
    let f : SFits w64 c.in-Ok.old = search rules in
    IfOk-weaker c.update_number.result _ _ (λ next said t.
    let means = simp to_z-of_z at (said t) in
    means ∙ ap (plug t c.args.frames.now.items) (ap (λ n. M.numbered n (λ old. M.numbered (stepped c.args.operator old) (λ new. handle (M.put_value c.args.env.index (reference_of t c.args.reference) (M.number_value new)) (M.with_value (λ w. M.give (M.number_value (if c.args.prefix then new else old))))))) (sym c.in-Ok.ensures.ok))) c.update_number.ensures.means

pub returns-in-Err-clause-means : goal.returns-in-Err-clause-means
returns-in-Err-clause-means c = λ t. rw c.in-Err.ensures.refused refl

pub returns-in-Ok-clause-less : goal.returns-in-Ok-clause-less
returns-in-Ok-clause-less c = IfOk-weaker c.update_number.result _ _ (λ next less w. omega (arith, less w)) c.update_number.ensures.less
