use Rattle.std.proofs.Common.{codes}
use Rattle.std.proofs.lemmas.Result.{on_ok_weaker}
use Rattle.cov_report.specs.JsonSummary.{totals_member, sums_text}
use Rattle.cov_report.proofs.Texts.{five}
use Rattle.cov_report.proofs.summary_report.push_sums.Goals as goal

pub returns : goal.returns
unfolding sums_text
returns c =
    let sums = c.args.sums in
    on_ok_weaker c.push_text.result (λ e. five
    (totals_member (codes "{\"lines\":") sums.lines) (totals_member (codes ",\"statements\":") sums.statements)
    (totals_member (codes ",\"functions\":") sums.functions) (totals_member (codes ",\"branches\":") sums.branches) (codes "}") _ _ _ _ _ _
    c.in_ok-push_totals_member.ensures c.in_ok-push_totals_member-2.ensures c.in_ok-push_totals_member-3.ensures c.in_ok-push_totals_member-4.ensures e) c.push_text.ensures
