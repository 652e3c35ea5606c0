use Rattle.std.proofs.Common.{length, [], ap, arith}
use Rattle.cov_v8.proofs.PlaceLemmas.{table-length}
use Rattle.cov_v8.proofs.table.end.Goals as goal

pub overflow_sub-result : goal.overflow_sub-result
overflow_sub-result c = omega (arith, ap length c.requires.known.1, table-length [] c.requires.known.0)

pub returns-clause-last : goal.returns-clause-last
returns-clause-last c = omega (arith, ap length c.requires.known.1, table-length [] c.requires.known.0)

pub returns-clause-units : goal.returns-clause-units
returns-clause-units c = λ cs is. omega (arith, ap length is, table-length [] cs)
