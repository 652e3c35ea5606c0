-- What is left of the comments comes after what is in the table.
use Rattle.std.proofs.Common.{◌≡◌, drop}
use Rattle.cov_hints.specs.Table.{hint_in_table}
use Rattle.js_tree.specs.Comments.{hint_before, or_earlier}
use Rattle.js_terms.specs.declared.place.Pos.{Pos}
use Rattle.cov_hints.proofs.table.Hints.of.Given as goal

abbrev pub invariant-loop-comment : goal.invariant-loop-comment
invariant-loop-comment l = (token : Pos) → or_earlier (hint_before (drop l.comment-index l.comments) token) (hint_in_table l.held token) ≡ hint_before l.comments token
