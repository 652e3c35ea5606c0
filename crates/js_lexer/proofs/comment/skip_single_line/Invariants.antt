use Rattle.std.proofs.Common.{◌≡◌, ◌≤◌, length}
use Rattle.js_text.specs.Comment.{single_line_rest}
use Rattle.js_text.specs.Lex.{characters_of}
use Rattle.js_lexer.proofs.comment.skip_single_line.Given as goal

abbrev pub invariant-loop-next : goal.invariant-loop-next
invariant-loop-next l = record {
  rest : single_line_rest l.cursor.after ≡ single_line_rest l.initial.cursor.after;
  text : characters_of l.cursor ≡ characters_of l.initial.cursor;
  onward : length l.cursor.after ≤ length l.initial.cursor.after;
}

abbrev pub decreases-loop-next : goal.decreases-loop-next
decreases-loop-next l = length l.cursor.after
