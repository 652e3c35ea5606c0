use Rattle.cov_run.proofs.Meaning.{sessions_mean}
use Rattle.cov_run.proofs.laws.sessions_mean.Goals as goal

pub returns : goal.returns
returns c = sessions_mean c.simulating.ensures
