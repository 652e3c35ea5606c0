use Rattle.std.proofs.Common.{◌≡◌, map}
use Rattle.cov_report.specs.Table.{width_of}
use Rattle.cov_report.proofs.table.width_of.Given as goal

abbrev pub invariant-loop-file : goal.invariant-loop-file
invariant-loop-file l = l.width ≡ width_of (map (λ file. file.now) l.yielded)
