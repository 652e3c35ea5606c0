use Rattle.cov_counted.proofs.Counting.{counts_entries}
use Rattle.cov_counted.proofs.entries.Goals as goal

pub returns : goal.returns
returns c = counts_entries c.entries.ensures
