use Rattle.std.proofs.Common.{codes}
use Rattle.std.proofs.lemmas.Result.{on_ok_weaker}
use Rattle.cov_report.specs.Table.{percent_cell, cells}
use Rattle.cov_report.proofs.Texts.{seven}
use Rattle.cov_report.proofs.cell.push_cells.Goals as goal

pub returns : goal.returns
unfolding cells
returns c =
    let sums = c.args.sums in
    on_ok_weaker c.push_percent-4.result (λ e. seven
    (percent_cell 7 sums.statements) (codes " | ") (percent_cell 8 sums.branches) (codes " | ") (percent_cell 7 sums.functions) (codes " | ") (percent_cell 7 sums.lines) _ _ _ _ _ _ _ _
    c.in_ok-push_percent.ensures c.in_ok-push_text.ensures c.in_ok-push_percent-2.ensures c.in_ok-push_text-2.ensures c.in_ok-push_percent-3.ensures c.in_ok-push_text-3.ensures e) c.push_percent-4.ensures
