use Rattle.std.proofs.Common.{◌≡◌, ◌≤◌, length, zero}
use Rattle.js_text.specs.Units.{string_rest}
use Rattle.js_text.specs.Lex.{characters_of}
use Rattle.js_lexer.proofs.literal.skip_string.Given as goal

abbrev pub invariant-loop-next : goal.invariant-loop-next
invariant-loop-next l = record {
  rest : string_rest l.quote zero l.cursor.after ≡ string_rest l.quote zero l.initial.cursor.after;
  text : characters_of l.cursor ≡ characters_of l.initial.cursor;
  onward : length l.cursor.after ≤ length l.initial.cursor.after;
}

abbrev pub decreases-loop-next : goal.decreases-loop-next
decreases-loop-next l = length l.cursor.after
