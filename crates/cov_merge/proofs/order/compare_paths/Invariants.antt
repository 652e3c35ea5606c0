use Rattle.std.proofs.Common.{◌≡◌, length}
use Rattle.std.specs.Cmp.Lexicographic.{slice_cmp}
use Rattle.cov_merge.specs.private.Order.{path_cmp}
use Rattle.cov_merge.proofs.order.compare_paths.Given as goal

-- what is left of both compares as the whole does
abbrev pub invariant-loop-first : goal.invariant-loop-first
invariant-loop-first l = slice_cmp path_cmp l.left l.right ≡ slice_cmp path_cmp l.fn.a l.fn.b

abbrev pub decreases-loop-first : goal.decreases-loop-first
decreases-loop-first l = length l.left
