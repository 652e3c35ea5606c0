use Rattle.cov_object.proofs.BranchLemmas.{settled-empty}
use Rattle.cov_object.proofs.branch.BranchCoverage.new.Goals as goal

pub of_settled-branch-requires : goal.of_settled-branch-requires
of_settled-branch-requires c = rw c.new.ensures (settled-empty _ c.args.location)
