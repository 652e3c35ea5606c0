use Rattle.js_counter.proofs.Makes.{literals_make}
use Rattle.js_counter.proofs.literals.Goals as goal

pub returns : goal.returns
returns c = literals_make
