use Rattle.source_map.proofs.TraceLemmas.{is_composed}
use Rattle.source_map.proofs.ReadBack.{is_read_back}
use Rattle.source_map.proofs.MapLemmas.{is_fit, is_composed_fit}
use Rattle.source_map.proofs.laws.reading.Goals as goal

pub returns-clause-composed : goal.returns-clause-composed
returns-clause-composed c = is_composed

pub returns-clause-read_back : goal.returns-clause-read_back
returns-clause-read_back c = is_read_back

pub returns-clause-fit : goal.returns-clause-fit
returns-clause-fit c = is_fit

pub returns-clause-composed_fit : goal.returns-clause-composed_fit
returns-clause-composed_fit c = is_composed_fit
