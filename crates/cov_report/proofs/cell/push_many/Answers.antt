use Rattle.std.proofs.Common.{◌++◌, ◌∷◌, [], sym, ap, ◌∙◌, append_assoc}
use Rattle.cov_report.specs.Table.{many}
use Rattle.cov_report.proofs.Many.{many-more}
use Rattle.cov_report.proofs.cell.push_many.Goals as goal

pub loop-step-preserved : goal.loop-step-preserved
loop-step-preserved c =
    let before = c.args.out.now.items in
    let byte = c.args.byte in
    let step = c.loop-step.step in
    c.in_ok-push.ensures.items ∙ ap (λ text. text ++ byte ∷ []) c.loop-step.invariant ∙ append_assoc before (many byte step) (byte ∷ []) ∙ ap (λ text. before ++ text) (sym (many-more byte step))
