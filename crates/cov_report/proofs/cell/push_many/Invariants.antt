use Rattle.std.proofs.Common.{◌≡◌, ◌++◌}
use Rattle.cov_report.specs.Table.{many}
use Rattle.cov_report.proofs.cell.push_many.Given as goal

abbrev pub invariant-loop-step : goal.invariant-loop-step
invariant-loop-step l = l.out.items ≡ l.fn.out.items ++ many l.byte l.step
