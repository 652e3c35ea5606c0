-- With those that are left, the totals are those of all.
use Rattle.std.proofs.Common.{◌≡◌, map, drop}
use Rattle.cov_summary.specs.Totals.{with_counts}
use Rattle.cov_summary.proofs.sums.with_paths.Given as goal

abbrev pub invariant-loop-path : goal.invariant-loop-path
invariant-loop-path l = with_counts l.so_far (map (λ path. path.count) (drop l.path-index l.paths)) ≡ with_counts l.fn.totals (map (λ path. path.count) l.paths)
