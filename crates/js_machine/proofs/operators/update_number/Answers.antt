use Rattle.std.proofs.lemmas.Result.{IfOk-weaker}
use Rattle.std.proofs.Common.{sym, ap, ◌∙◌, arith}
use Rattle.std.proofs.Common.{if◌then◌else◌, rules, to_z-of_z, w64}
use mir.Val.{SFits}
use Rattle.js_meaning.specs.declared.outcome.Completion.TheVariants as completion
use Rattle.js_meaning.specs.Effects.{handle, ret}
use Rattle.js_meaning.specs.Meaning as M
use Rattle.js_machine.specs.private.Config.{reference_of, plug}
use Rattle.js_machine.proofs.operators.update_number.Goals as goal

pub returns-in-Ok-clause-means : goal.returns-in-Ok-clause-means
returns-in-Ok-clause-means c =
    let f : SFits w64 c.args.old = c.ranges.old in
    let g : SFits w64 c.in-Ok.new = search rules in
    let ok = simp to_z-of_z at c.in-Ok.ensures.ok in
    let given = simp to_z-of_z at c.chosen-given.ensures in
    IfOk-weaker c.with_frame.result _ _ (λ control means t. let put = simp to_z-of_z at (c.put.ensures.means t) in
    means t ∙ ap (plug t c.args.frames.now.items) (ap (λ d. handle d (M.with_value (λ w. ret (completion.Normal c.chosen-given.result)))) put
    ∙ ap (λ g. handle (M.put_value c.args.env.index (reference_of t c.args.reference) (M.number_value c.in-Ok.new)) (M.with_value (λ w. M.give g))) given
    ∙ ap (λ n. M.numbered n (λ new. handle (M.put_value c.args.env.index (reference_of t c.args.reference) (M.number_value new)) (M.with_value (λ w. M.give (M.number_value (if c.args.prefix then new else c.args.old)))))) (sym ok))) c.with_frame.ensures.means

pub returns-in-Ok-clause-less : goal.returns-in-Ok-clause-less
returns-in-Ok-clause-less c = IfOk-weaker c.with_frame.result _ _ (λ control weight w. omega (arith, weight w, c.put.ensures.less w)) c.with_frame.ensures.weight

pub returns-in-Err-clause-means : goal.returns-in-Err-clause-means
returns-in-Err-clause-means c = λ t. ap (plug t c.args.frames.now.items) (let f : SFits w64 c.args.old = c.ranges.old in
    let refused = simp to_z-of_z at c.in-Err.ensures.refused in
    ap (λ n. M.numbered n (λ new. handle (M.put_value c.args.env.index (reference_of t c.args.reference) (M.number_value new)) (M.with_value (λ w. M.give (M.number_value (if c.args.prefix then new else c.args.old)))))) (sym refused))
