use Rattle.printed_map.proofs.OrderLemmas.{stand_in_order}
use Rattle.printed_map.proofs.TraceLemmas.{leads_back}
use Rattle.printed_map.proofs.laws.tracing.Goals as goal

pub returns-clause-back : goal.returns-clause-back
returns-clause-back c = leads_back

pub returns-clause-order : goal.returns-clause-order
returns-clause-order c = stand_in_order
