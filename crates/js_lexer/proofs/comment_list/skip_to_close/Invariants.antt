use Rattle.std.proofs.Common.{◌≡◌, ◌≤◌, length}
use Rattle.js_text.specs.Lex.{characters_of}
use Rattle.js_lexer.specs.private.Close.{close_from}
use Rattle.js_lexer.proofs.comment_list.skip_to_close.Given as goal

abbrev pub invariant-loop-cursor : goal.invariant-loop-cursor
invariant-loop-cursor l = record {
  rest : close_from l.cursor.after ≡ close_from l.initial.cursor.after;
  text : characters_of l.cursor ≡ characters_of l.initial.cursor;
  onward : length l.cursor.after ≤ length l.initial.cursor.after;
}

abbrev pub decreases-loop-cursor : goal.decreases-loop-cursor
decreases-loop-cursor l = length l.cursor.after
