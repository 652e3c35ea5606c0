use Rattle.std.proofs.Common.{◌≡◌, ◌≤◌, length, zero}
use Rattle.js_text.specs.Place.{Place}
use Rattle.js_text.specs.Gap.{gap_rest, comments_in}
use Rattle.js_text.specs.Lex.{characters_of}
use Rattle.js_lexer.specs.Gap.{grown}
use Rattle.js_lexer.proofs.gap.skip_comments.Given as goal

abbrev pub invariant-loop-comments : goal.invariant-loop-comments
invariant-loop-comments l = record {
  rest : gap_rest zero l.cursor.after ≡ gap_rest zero l.initial.cursor.after;
  text : characters_of l.cursor ≡ characters_of l.initial.cursor;
  onward : length l.cursor.after ≤ length l.initial.cursor.after;
  comments : (whole : Place) → characters_of l.initial.cursor ≡ characters_of whole → length l.initial.cursor.after ≤ length whole.after →
      grown whole l.comments (comments_in zero l.cursor.after) ≡ grown whole l.initial.comments (comments_in zero l.initial.cursor.after);
}

abbrev pub decreases-loop-comments : goal.decreases-loop-comments
decreases-loop-comments l = length l.cursor.after
