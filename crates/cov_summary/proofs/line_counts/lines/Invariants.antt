-- With the statements that are left, the lines are those of all.
use Rattle.std.proofs.Common.{◌≡◌, fold, drop}
use Rattle.cov_summary.specs.Lines.{with_statement, lines_of}
use Rattle.cov_summary.proofs.line_counts.lines.Given as goal

abbrev pub invariant-loop-statement : goal.invariant-loop-statement
invariant-loop-statement l = fold with_statement l.lines.entries (drop l.statement-index l.statement-items) ≡ lines_of l.file
