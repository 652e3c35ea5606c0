use Rattle.cov_v8.proofs.ShortestLemmas.{zero-outside, is-shortest}
use Rattle.cov_v8.proofs.laws.counting.Goals as goal

pub returns-clause-zero : goal.returns-clause-zero
returns-clause-zero c = zero-outside

pub returns-clause-shortest : goal.returns-clause-shortest
returns-clause-shortest c = is-shortest
