-- With those that are left, the totals are those of all.
use Rattle.std.proofs.Common.{◌≡◌, map, drop}
use Rattle.cov_summary.specs.Totals.{with_counts}
use Rattle.cov_summary.proofs.sums.with_statements.Given as goal

abbrev pub invariant-loop-statement : goal.invariant-loop-statement
invariant-loop-statement l = with_counts l.so_far (map (λ statement. statement.1.count) (drop l.statement-index l.statements)) ≡ with_counts l.fn.totals (map (λ statement. statement.1.count) l.statements)
