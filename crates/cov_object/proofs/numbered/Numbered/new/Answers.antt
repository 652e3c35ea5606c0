use Rattle.std.proofs.Common.{sym, subst}
use Rattle.cov_object.specs.Numbered.{Ascends}
use Rattle.cov_object.proofs.Numbers.{ascends-none}
use Rattle.cov_object.proofs.numbered.Numbered.new.Goals as goal

pub invariant_of-result : goal.invariant_of-result
invariant_of-result g c = subst Ascends (sym c.new.ensures.items) (ascends-none g.row.T.Denot)
