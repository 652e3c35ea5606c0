use Rattle.std.proofs.Common.{◌≡◌, ◌++◌, ap, ◌∙◌, codes}
use Rattle.std.proofs.lemmas.Result.{on_ok_weaker}
use Rattle.cov_summary.specs.Lines.{lines_of}
use Rattle.cov_summary.specs.Sums.{sums_of}
use Rattle.cov_report.specs.Table.{filled, cells, lines_text, uncovered, file_row}
use Rattle.cov_report.proofs.Texts.{six}
use Rattle.cov_report.proofs.table.push_file.Goals as goal

pub returns : goal.returns
unfolding file_row
returns c =
    let file = c.args.file.now in
    let width = c.args.width in
    let missed : c.deref-2.result.now ≡ uncovered (lines_of file) =
    c.deref-2.ensures.value ∙ c.in_ok-missed.ensures ∙ ap uncovered (c.deref.ensures.value ∙ c.in_ok-counted.ensures) in
    on_ok_weaker c.push_text-3.result (λ e. six
    (filled width file.path) (codes " | ") (cells (sums_of file)) (codes " |") (lines_text (uncovered (lines_of file))) (codes "\n") _ _ _ _ _ _ _
    (c.in_ok-push_filled.ensures ∙ ap (λ path. c.args.out.now.items ++ filled width path) c.as_str.ensures)
    c.in_ok-push_text.ensures
    (c.in_ok-push_cells.ensures ∙ ap (λ sums. c.push_text.new.out.items ++ cells sums) c.in_ok-file_sums.ensures.value)
    c.in_ok-push_text-2.ensures
    (c.in_ok-push_lines.ensures ∙ ap (λ lines. c.push_text-2.new.out.items ++ lines_text lines) missed)
    e) c.push_text-3.ensures
