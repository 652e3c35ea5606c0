use Rattle.std.proofs.Common.{◌≡◌, ◌++◌, ap, ◌∙◌, codes}
use Rattle.std.proofs.lemmas.Result.{on_ok_weaker}
use Rattle.cov_summary.specs.Shortfall.{hundredths}
use Rattle.cov_report.specs.Percent.{percent_text}
use Rattle.cov_report.specs.JsonSummary.{number_member, totals_text}
use Rattle.cov_report.proofs.Texts.{five}
use Rattle.cov_report.proofs.summary_report.push_totals.Goals as goal

pub returns : goal.returns
unfolding totals_text
returns c =
    let totals = c.args.totals in
    let part : c.as_str.result.now ≡ percent_text (hundredths totals.covered totals.total) = c.as_str.ensures.value ∙ c.in_ok-part.ensures ∙ ap percent_text c.hundredths.ensures in
    on_ok_weaker c.push_text-3.result (λ e. five
    (number_member (codes "{\"total\":") totals.total) (number_member (codes ",\"covered\":") totals.covered)
    (codes ",\"skipped\":0,\"pct\":") (percent_text (hundredths totals.covered totals.total)) (codes "}") _ _ _ _ _ _
    c.in_ok-push_number_member.ensures c.in_ok-push_number_member-2.ensures c.in_ok-push_text.ensures
    (c.in_ok-push_text-2.ensures ∙ ap (λ text. c.push_text.new.out.items ++ text) part) e) c.push_text-3.ensures
