-- With those that are left, the totals are those of all.
use Rattle.std.proofs.Common.{◌≡◌, map, drop}
use Rattle.cov_summary.specs.Totals.{with_counts}
use Rattle.cov_summary.proofs.sums.with_lines.Given as goal

abbrev pub invariant-loop-count : goal.invariant-loop-count
invariant-loop-count l = with_counts l.so_far (map (λ line. line.1) (drop l.count-index l.lines)) ≡ with_counts l.fn.totals (map (λ line. line.1) l.lines)
