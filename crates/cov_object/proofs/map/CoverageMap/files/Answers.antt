use Rattle.std.proofs.Common.{subst}
use Rattle.cov_object.specs.Files.{AreInOrder}
use Rattle.cov_object.proofs.Files.{in_order}
use Rattle.cov_object.proofs.map.CoverageMap.files.Goals as goal

pub returns-clause-order : goal.returns-clause-order
returns-clause-order c = subst AreInOrder c.self.view_is (in_order c.self.inside.files.entries c.values.ensures.ordered c.self.invariant)
