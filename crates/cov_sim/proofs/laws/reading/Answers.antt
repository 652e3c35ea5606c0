use Rattle.cov_sim.proofs.Named.{names_functions}
use Rattle.cov_sim.proofs.Spelt.{spells_sources, reads_sources}
use Rattle.cov_sim.proofs.laws.reading.Goals as goal

pub returns : goal.returns
returns c = record { names = names_functions; spelt = spells_sources; again = reads_sources }
