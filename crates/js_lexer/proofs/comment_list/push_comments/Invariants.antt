use Rattle.std.proofs.Common.{◌≡◌, ◌++◌, length}
use Rattle.js_lexer.proofs.CommentTexts.{all_of}
use Rattle.js_lexer.proofs.comment_list.push_comments.Given as goal

abbrev pub invariant-loop-start : goal.invariant-loop-start
invariant-loop-start l = l.found ++ all_of l.next l.cursor.after ≡ l.initial.found ++ all_of l.next l.initial.cursor.after

abbrev pub decreases-loop-start : goal.decreases-loop-start
decreases-loop-start l = length l.cursor.after
