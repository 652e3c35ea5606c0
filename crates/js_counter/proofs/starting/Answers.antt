use Rattle.js_counter.proofs.Starts.{starts_file}
use Rattle.js_counter.proofs.Fresh.{begins_fresh}
use Rattle.js_counter.proofs.Began.{starts_first, starts_other, starts_again}
use Rattle.js_counter.proofs.starting.Goals as goal

pub returns-clause-start : goal.returns-clause-start
returns-clause-start c = starts_file

pub returns-clause-begins : goal.returns-clause-begins
returns-clause-begins c = begins_fresh

pub returns-clause-first : goal.returns-clause-first
returns-clause-first c = starts_first

pub returns-clause-other : goal.returns-clause-other
returns-clause-other c = starts_other

pub returns-clause-again : goal.returns-clause-again
returns-clause-again c = starts_again
