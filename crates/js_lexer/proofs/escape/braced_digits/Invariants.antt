use Rattle.std.proofs.Common.{◌≡◌, ◌≤◌, length}
use Rattle.js_text.specs.Escape.{braced_digits}
use Rattle.js_text.specs.Lex.{characters_of}
use Rattle.js_lexer.proofs.escape.braced_digits.Given as goal

abbrev pub invariant-loop-next : goal.invariant-loop-next
invariant-loop-next l = record {
  rest : braced_digits l.value l.cursor.after ≡ braced_digits 0 l.initial.cursor.after;
  bound : l.value ≤ 0x10FFFF;
  text : characters_of l.cursor ≡ characters_of l.initial.cursor;
  onward : length l.cursor.after ≤ length l.initial.cursor.after;
}

abbrev pub decreases-loop-next : goal.decreases-loop-next
decreases-loop-next l = length l.cursor.after
