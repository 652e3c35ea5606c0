use Rattle.js_two_runs.specs.TwoHeaps.{By}
use Rattle.js_two_runs.proofs.TwoCallsLemmas.{call-heaps, call-answers, call-keeps}
use Rattle.js_two_runs.proofs.two_calls.calls_are_alike.Goals as goal

pub returns-clause-heaps : goal.returns-clause-heaps
returns-clause-heaps c = λ pairs test n constructing this that vs ws h k hk r rs. call-heaps pairs (By test) h k hk n constructing this that vs ws r rs

pub returns-clause-answers : goal.returns-clause-answers
returns-clause-answers c = λ pairs test n constructing this that vs ws h k hk r rs. call-answers pairs (By test) h k hk n constructing this that vs ws r rs

pub returns-clause-pairs : goal.returns-clause-pairs
returns-clause-pairs c = λ pairs n constructing this vs h k o p i. call-keeps pairs n constructing this vs h k o p i
