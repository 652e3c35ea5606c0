-- With what is left, the text is the whole.
use Rattle.std.proofs.Common.{◌≡◌, ◌++◌, drop}
use Rattle.cov_report.specs.Table.{runs_text}
use Rattle.cov_report.proofs.missed.push_runs.Given as goal

abbrev pub invariant-loop-line : goal.invariant-loop-line
invariant-loop-line l = l.out.items ++ runs_text l.start l.end (drop l.line-index l.rest) ≡ l.fn.out.items ++ runs_text l.first l.first l.rest
