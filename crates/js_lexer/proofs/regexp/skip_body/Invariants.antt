use Rattle.std.proofs.Common.{◌≡◌, ◌≤◌, length, false}
use Rattle.js_text.specs.RegularExpression.{body_rest}
use Rattle.js_text.specs.Lex.{characters_of}
use Rattle.js_lexer.proofs.regexp.skip_body.Given as goal

abbrev pub invariant-loop-next : goal.invariant-loop-next
invariant-loop-next l = record {
  rest : body_rest l.escaped l.inside l.cursor.after ≡ body_rest false false l.initial.cursor.after;
  text : characters_of l.cursor ≡ characters_of l.initial.cursor;
  onward : length l.cursor.after ≤ length l.initial.cursor.after;
}

abbrev pub decreases-loop-next : goal.decreases-loop-next
decreases-loop-next l = length l.cursor.after
