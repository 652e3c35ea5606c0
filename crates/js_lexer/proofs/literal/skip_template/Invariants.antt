use Rattle.std.proofs.Common.{◌≡◌, ◌≤◌, length, zero}
use Rattle.js_text.specs.Units.{template_rest}
use Rattle.js_text.specs.Lex.{characters_of}
use Rattle.js_lexer.proofs.literal.skip_template.Given as goal

abbrev pub invariant-loop-next : goal.invariant-loop-next
invariant-loop-next l = record {
  rest : template_rest zero l.cursor.after ≡ template_rest zero l.initial.cursor.after;
  text : characters_of l.cursor ≡ characters_of l.initial.cursor;
  onward : length l.cursor.after ≤ length l.initial.cursor.after;
}

abbrev pub decreases-loop-next : goal.decreases-loop-next
decreases-loop-next l = length l.cursor.after
