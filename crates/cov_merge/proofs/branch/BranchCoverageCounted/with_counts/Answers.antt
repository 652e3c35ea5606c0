use Rattle.std.proofs.Common.{◌≡◌, IfOk, ap, ◌∙◌, subst}
use Rattle.cov_object.specs.Branch.{BranchCoverage, settled}
use Rattle.cov_merge.specs.Kinds.{paths_with}
use Rattle.cov_merge.proofs.Settled.{counted-settled}
use Rattle.cov_merge.proofs.branch.BranchCoverageCounted.with_counts.Goals as goal

pub returns : goal.returns
returns c =
    let branch = c.args.self.now in
    let paths : c.in_ok-paths.paths ≡ paths_with branch.paths c.args.sums.now = c.in_ok-paths.ensures ∙ ap (λ ps. paths_with ps c.args.sums.now) c.paths.ensures.paths in
    subst (λ (b : BranchCoverage). IfOk c.new.result (λ entry. entry ≡ b))
    (ap (λ kind. settled (record { kind = kind; location = c.location.result; paths = c.in_ok-paths.paths })) c.kind.ensures
    ∙ ap (λ location. settled (record { kind = branch.kind; location = location; paths = c.in_ok-paths.paths })) c.location.ensures
    ∙ ap (λ ps. settled (record { kind = branch.kind; location = branch.location; paths = ps })) paths
    ∙ counted-settled branch c.args.sums.now c.paths.ensures.settled c.requires.long)
    c.new.ensures
