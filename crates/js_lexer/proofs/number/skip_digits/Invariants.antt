use Rattle.std.proofs.Common.{◌≡◌, ◌≤◌, length}
use Rattle.js_lexer.specs.Number.{code_of}
use Rattle.js_text.specs.Number.{more_digits}
use Rattle.js_text.specs.Lex.{characters_of}
use Rattle.js_lexer.proofs.number.skip_digits.Given as goal

abbrev pub invariant-loop-cursor : goal.invariant-loop-cursor
invariant-loop-cursor l = record {
  rest : more_digits (code_of l.base) l.cursor.after ≡ more_digits (code_of l.base) l.initial.cursor.after;
  text : characters_of l.cursor ≡ characters_of l.initial.cursor;
  onward : length l.cursor.after ≤ length l.initial.cursor.after;
}

abbrev pub decreases-loop-cursor : goal.decreases-loop-cursor
decreases-loop-cursor l = length l.cursor.after
