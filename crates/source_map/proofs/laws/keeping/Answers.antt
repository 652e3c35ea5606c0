use Rattle.source_map.proofs.KeptLemmas.{keeps_maps}
use Rattle.source_map.proofs.laws.keeping.Goals as goal

pub returns : goal.returns
returns c = keeps_maps
