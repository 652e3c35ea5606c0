use Rattle.cov_counted.proofs.Numbers.{numbers_first}
use Rattle.cov_counted.proofs.numbering.Goals as goal

pub returns : goal.returns
returns c = numbers_first
