use Rattle.std.proofs.Common.{◌≡◌, ◌≤◌, length, zero}
use Rattle.js_text.specs.Identifier.{identifier_rest}
use Rattle.js_text.specs.Lex.{characters_of}
use Rattle.js_lexer.proofs.word.skip_rest.Given as goal

abbrev pub invariant-loop : goal.invariant-loop
invariant-loop l = record {
  rest : identifier_rest zero l.cursor.after ≡ identifier_rest zero l.initial.cursor.after;
  text : characters_of l.cursor ≡ characters_of l.initial.cursor;
  onward : length l.cursor.after ≤ length l.initial.cursor.after;
}

abbrev pub decreases-loop : goal.decreases-loop
decreases-loop l = length l.cursor.after
