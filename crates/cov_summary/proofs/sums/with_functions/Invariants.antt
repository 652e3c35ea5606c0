-- With those that are left, the totals are those of all.
use Rattle.std.proofs.Common.{◌≡◌, map, drop}
use Rattle.cov_summary.specs.Totals.{with_counts}
use Rattle.cov_summary.proofs.sums.with_functions.Given as goal

abbrev pub invariant-loop-function : goal.invariant-loop-function
invariant-loop-function l = with_counts l.so_far (map (λ function. function.1.count) (drop l.function-index l.functions)) ≡ with_counts l.fn.totals (map (λ function. function.1.count) l.functions)
