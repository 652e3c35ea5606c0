use Rattle.js_counted.proofs.Keeps.{counters_keep, first_holds}
use Rattle.js_counted.specs.Program.{is_counted, counted_program}
use Rattle.js_counted.proofs.keeping.Goals as goal

pub returns-clause-stays : goal.returns-clause-stays
returns-clause-stays c = counters_keep

pub returns-clause-begins : goal.returns-clause-begins
returns-clause-begins c = λ files p. first_holds files (counted_program files p) (is_counted p)
