use Rattle.std.proofs.Common.{◌≡◌, ◌≤◌, length}
use Rattle.js_lexer.specs.private.Class.{test_of}
use Rattle.js_text.specs.Lex.{past, characters_of}
use Rattle.js_lexer.proofs.scan.skip.Given as goal

abbrev pub invariant-loop-next : goal.invariant-loop-next
invariant-loop-next l = record {
  rest : past (test_of l.class) l.cursor.after ≡ past (test_of l.class) l.initial.cursor.after;
  text : characters_of l.cursor ≡ characters_of l.initial.cursor;
  onward : length l.cursor.after ≤ length l.initial.cursor.after;
}

abbrev pub decreases-loop-next : goal.decreases-loop-next
decreases-loop-next l = length l.cursor.after
