-- The lines so far, and those of what is left.
use Rattle.std.proofs.Common.{◌≡◌, ◌++◌, drop}
use Rattle.std.specs.List.{flat_map}
use Rattle.cov_commands.specs.Line.{shortfall_line}
use Rattle.cov_commands.proofs.line.shortfall_lines.Given as goal

abbrev pub invariant-loop-shortfall : goal.invariant-loop-shortfall
invariant-loop-shortfall l = l.lines.items ++ flat_map shortfall_line (drop l.shortfall-index l.shortfalls) ≡ flat_map shortfall_line l.shortfalls
