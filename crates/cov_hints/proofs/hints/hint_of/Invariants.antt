use Rattle.std.proofs.Common.{◌≡◌, drop}
use Rattle.js_tree.specs.Comments.{hint_of, or_earlier}
use Rattle.cov_hints.proofs.hints.hint_of.Given as goal

abbrev pub invariant-loop-comment : goal.invariant-loop-comment
invariant-loop-comment l = or_earlier (hint_of (drop l.comment-index l.comments)) l.last ≡ hint_of l.comments
