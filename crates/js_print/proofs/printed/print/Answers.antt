use Rattle.std.proofs.Common.{◌≡◌, ◌∙◌, ap, arith}
use Rattle.std.specs.Prelude.{map}
use Rattle.js_tree.specs.Tree.{plain_file}
use Rattle.js_layout.specs.Layout as spec
use Rattle.js_sheet.specs.Sheets.{blank}
use Rattle.js_print.proofs.Printing.{printed_rules}
use Rattle.js_print.proofs.Again.{read_again, of_sources}
use Rattle.js_print.proofs.printed.print.Goals as goal

-- it is held whole
pub finish_whole-requires : goal.finish_whole-requires
finish_whole-requires c = (c.statements.ensures.stands _ blank (c.whole-to.ensures _ _)).way

pub place_marks-requires : goal.place_marks-requires
place_marks-requires c =
    let there = c.statements.ensures.stands _ blank (c.whole-to.ensures _ _) in
    let parts = c.in_ok-text.ensures _ _ there in
    let kept = parts.1 in grind (arith, printed_rules)

pub returns-clause-bytes : goal.returns-clause-bytes
returns-clause-bytes c =
    let there = c.statements.ensures.stands _ blank (c.whole-to.ensures _ _) in
    let parts = c.in_ok-text.ensures _ _ there in
    let text = parts.0 in grind (arith, printed_rules)

pub returns-clause-marks : goal.returns-clause-marks
returns-clause-marks c =
    let file = plain_file c.args.file.now in
    let there = c.statements.ensures.stands _ blank (c.whole-to.ensures _ _) in
    let parts = c.in_ok-text.ensures _ _ there in
    let held = parts.0 in
    let kept = parts.1 in
    let text : c.deref.result.now ≡ spec.layout file = grind (arith, printed_rules) in
    let offsets : c.deref-2.result.now ≡ spec.marks_of (spec.written file) = grind (arith, printed_rules) in
    c.in_ok-marks.ensures ∙ ap (λ t. map (λ m. spec.mark_of t m) c.deref-2.result.now) text ∙ ap (λ ms. map (λ m. spec.mark_of (spec.layout file) m) ms) offsets

pub returns-clause-again : goal.returns-clause-again
returns-clause-again c =
    let there = c.statements.ensures.stands _ blank (c.whole-to.ensures _ _) in
    let parts = c.in_ok-text.ensures _ _ there in
    let text = parts.0 in read_again c.from_string.result (plain_file c.args.file.now) (grind (arith, printed_rules))

pub returns-clause-sources : goal.returns-clause-sources
returns-clause-sources c =
    let there = c.statements.ensures.stands _ blank (c.whole-to.ensures _ _) in
    let parts = c.in_ok-text.ensures _ _ there in
    let text = parts.0 in of_sources c.from_string.result (plain_file c.args.file.now) (grind (arith, printed_rules))
