use Rattle.std.proofs.Common.{◌≡◌, length, chars}
use Rattle.std.specs.List.{list_any}
use Rattle.js_text.specs.Position.{is_line_terminator}
use Rattle.js_lexer.proofs.gap.has_line_terminator.Given as goal

abbrev pub invariant-loop-next : goal.invariant-loop-next
invariant-loop-next l = list_any is_line_terminator l.cursor.after ≡ list_any is_line_terminator (chars l.text)

abbrev pub decreases-loop-next : goal.decreases-loop-next
decreases-loop-next l = length l.cursor.after
