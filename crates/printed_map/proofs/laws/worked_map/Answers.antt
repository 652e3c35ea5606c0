use Rattle.printed_map.proofs.WorkedLemmas as lemmas
use Rattle.printed_map.proofs.laws.worked_map.Goals as goal

pub returns : goal.returns
returns c = lemmas.worked_map
