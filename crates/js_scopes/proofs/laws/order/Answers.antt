use Rattle.js_scopes.proofs.Firsts.{first_is}
use Rattle.js_scopes.proofs.laws.order.Goals as goal

pub returns-clause-first : goal.returns-clause-first
returns-clause-first c = λ faults fault is. first_is faults fault is
