use Rattle.std.proofs.Common.{sym, ap, ◌∙◌, subst}
use Rattle.cov_object.specs.Branch.{BranchCoverage, IsSettled}
use Rattle.cov_object.proofs.BranchLemmas.{settled-again}
use Rattle.cov_object.proofs.branch.BranchCoverage.with_paths.Goals as goal

pub of_settled-requires : goal.of_settled-requires
of_settled-requires c =
    let branch : BranchCoverage = record { kind = c.args.self.kind; location = c.args.self.location; paths = c.args.paths } in
    subst (λ (b : BranchCoverage). IsSettled (record { kind = b.kind; location = b.location; paths = c.settled_paths-settled.result })) (sym c.self.view_is)
    (subst (λ paths. IsSettled (record { kind = c.args.self.kind; location = c.args.self.location; paths = paths })) (sym c.settled_paths-settled.ensures) (settled-again branch))

pub returns : goal.returns
returns c =
    c.of_settled.ensures
    ∙ ap (λ (b : BranchCoverage). record { kind = b.kind; location = b.location; paths = c.settled_paths-settled.result }) c.self.view_is
    ∙ ap (λ paths. record { kind = c.args.self.kind; location = c.args.self.location; paths = paths }) c.settled_paths-settled.ensures
