use Rattle.std.proofs.Common.{◌≡◌, ◌++◌}
use Rattle.cov_rewrite.proofs.blocks.append.Given as goal

abbrev pub invariant-loop-statement : goal.invariant-loop-statement
invariant-loop-statement l = l.out ≡ l.initial.out ++ l.yielded
