-- For these goals the place is after the gap.
use Rattle.std.proofs.Common.{◌∙◌, ap}
use Rattle.std.specs.List.{list_any}
use Rattle.js_text.specs.Position.{is_line_terminator}
use Rattle.js_lexer.specs.Gap.{grown}
use Rattle.std.proofs.Common.{None}
use Rattle.js_lexer.proofs.Gaps.{gap-place, gap-run, gap-comments}
use Rattle.js_lexer.proofs.gap.skip_gap.Goals as goal

pub returns-in-Div : goal.returns-in-Div
returns-in-Div c = record {
  place = gap-place c.args.goal c.args.cursor.now c.skip_common_gap.new.cursor c.in-Div.is c.skip_common_gap.ensures.rest c.skip_common_gap.ensures.text c.skip_common_gap.ensures.onward;
  line = c.skip_common_gap.ensures.line ∙ ap (list_any is_line_terminator) (gap-run c.args.goal c.args.cursor.now c.in-Div.is);
  comments = c.skip_common_gap.ensures.comments ∙ ap (grown c.args.cursor.now None) (gap-comments c.args.goal c.args.cursor.now c.in-Div.is);
}
