use Rattle.std.proofs.Common.{Ok, ap, ◌∙◌, sym}
use Rattle.cov_object.specs.Read as spec
use Rattle.cov_object.specs.private.ByMember.{branch_kept}
use Rattle.cov_object.proofs.ReadLemmas.{paths_with-none}
use Rattle.cov_object.proofs.described.BranchCoverageDescribed.with_counts.Goals as goal

pub returns-in-None : goal.returns-in-None
returns-in-None c =
    let branch = c.args.self in
    c.branch_with.ensures
    ∙ ap (λ paths. spec.branch_with branch (Ok paths)) c.new.ensures.items
    ∙ sym (ap (spec.branch_with branch) (paths_with-none branch.paths))
    ∙ ap (branch_kept branch) (sym c.in-None.is)
