use Rattle.cov_again.proofs.Whole.{runs_replaced}
use Rattle.cov_again.proofs.Linked.{links_replaced}
use Rattle.cov_again.proofs.again.Goals as goal

pub returns-clause-linked : goal.returns-clause-linked
returns-clause-linked c = links_replaced

pub returns-clause-runs : goal.returns-clause-runs
returns-clause-runs c = runs_replaced c.marks.ensures.constructs c.without_counting.ensures.alike c.naming.ensures.new c.told.ensures.files c.literals.ensures.units c.literals.ensures.files c.accepted.ensures.tellable c.accepted.ensures.prepared c.entries.ensures
