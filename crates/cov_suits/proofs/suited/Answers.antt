use Rattle.cov_suits.proofs.Counters.{accepted_suits_counters}
use Rattle.cov_suits.proofs.Prelude.{prelude_readable}
use Rattle.cov_suits.proofs.suited.Goals as goal

pub returns-clause-prelude : goal.returns-clause-prelude
returns-clause-prelude c = prelude_readable

pub returns-clause-programs : goal.returns-clause-programs
returns-clause-programs c = accepted_suits_counters c.suits.ensures.fitted c.suits.ensures.this c.naming.ensures.refers c.naming.ensures.new
