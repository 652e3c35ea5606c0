use Rattle.std.proofs.Common.{◌≡◌, drop}
use Rattle.js_tree.specs.Comments.{after_word}
use Rattle.cov_hints.proofs.pattern.after_word.Given as goal

abbrev pub invariant-loop-letter : goal.invariant-loop-letter
invariant-loop-letter l = after_word (drop l.letter-index l.word) l.cursor.after ≡ after_word l.word l.fn.cursor.after
