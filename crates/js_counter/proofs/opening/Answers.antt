use Rattle.js_counter.proofs.Opens.{opens_first, opens_other, opens_anew, opens_again}
use Rattle.js_counter.proofs.opening.Goals as goal

pub returns-clause-first : goal.returns-clause-first
returns-clause-first c = opens_first

pub returns-clause-other : goal.returns-clause-other
returns-clause-other c = opens_other

pub returns-clause-anew : goal.returns-clause-anew
returns-clause-anew c = opens_anew

pub returns-clause-again : goal.returns-clause-again
returns-clause-again c = opens_again
