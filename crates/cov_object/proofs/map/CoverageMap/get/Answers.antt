use Rattle.std.proofs.Common.{ap, ◌∙◌}
use Rattle.cov_object.specs.Files.{found}
use Rattle.cov_object.proofs.Files.{lookup-found}
use Rattle.cov_object.proofs.map.CoverageMap.get.Goals as goal

pub returns : goal.returns
returns c =
    c.get.ensures.value ∙ lookup-found c.args.path.now c.self.inside.files.entries c.self.invariant ∙ ap (found c.args.path.now) c.self.view_is
