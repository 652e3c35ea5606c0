use Rattle.cov_preamble.proofs.FileSpelt.{file_value}
use Rattle.cov_preamble.proofs.laws.spelling.Goals as goal

pub returns : goal.returns
returns c file has = let value = file_value file has in (value.spelt, value.within)
