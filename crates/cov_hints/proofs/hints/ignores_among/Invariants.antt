use Rattle.std.proofs.Common.{◌≡◌, drop}
use Rattle.js_tree.specs.Comments.{ignores_file}
use Rattle.cov_hints.proofs.hints.ignores_among.Given as goal

abbrev pub invariant-loop-comment : goal.invariant-loop-comment
invariant-loop-comment l = ignores_file (drop l.comment-index l.comments) ≡ ignores_file l.comments
