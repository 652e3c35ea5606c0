use Rattle.std.proofs.Common.{length}
use Rattle.cov_v8.proofs.steps.+steps.Given as goal

abbrev pub decreases-steps : goal.decreases-steps
decreases-steps l = length l.ranges.now
