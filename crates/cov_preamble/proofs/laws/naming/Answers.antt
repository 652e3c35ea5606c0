use Rattle.cov_preamble.specs.Name.{first_name}
use Rattle.cov_preamble.proofs.Fresh.{apart_is}
use Rattle.cov_preamble.proofs.Ours.{can_refer, is_new}
use Rattle.cov_preamble.proofs.laws.naming.Goals as goal

pub returns-clause-apart : goal.returns-clause-apart
returns-clause-apart c path names = apart_is (first_name path) names

pub returns-clause-refers : goal.returns-clause-refers
returns-clause-refers c = can_refer

pub returns-clause-new : goal.returns-clause-new
returns-clause-new c = is_new
