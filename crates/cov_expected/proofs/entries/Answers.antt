use Rattle.cov_expected.proofs.Ticks.{ticks}
use Rattle.cov_expected.proofs.entries.Goals as goal

pub returns : goal.returns
returns c = ticks
