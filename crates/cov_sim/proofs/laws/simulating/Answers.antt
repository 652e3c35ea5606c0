use Rattle.cov_sim.proofs.Headline.{headline}
use Rattle.cov_sim.proofs.laws.simulating.Goals as goal

pub returns : goal.returns
returns c = headline c.language.ensures.text c.again.ensures.runs
