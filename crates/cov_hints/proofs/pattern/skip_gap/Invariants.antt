use Rattle.std.proofs.Common.{◌≡◌, length}
use Rattle.js_tree.specs.Comments.{skip_gap}
use Rattle.cov_hints.proofs.pattern.skip_gap.Given as goal

abbrev pub invariant-loop-next : goal.invariant-loop-next
invariant-loop-next l = skip_gap l.cursor.after ≡ skip_gap l.initial.cursor.after

abbrev pub decreases-loop-next : goal.decreases-loop-next
decreases-loop-next l = length l.cursor.after
