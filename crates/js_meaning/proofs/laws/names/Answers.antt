use Rattle.js_meaning.proofs.MetNames.{met_all}
use Rattle.js_meaning.proofs.laws.names.Goals as goal

pub returns : goal.returns
returns c = record { met = met_all }
