use Rattle.js_two_runs.proofs.TwoCallsKept.{call-kept}
use Rattle.js_two_runs.proofs.two_calls.calls_keep_environments.Goals as goal

pub returns : goal.returns
returns c = λ n constructing this vs h. call-kept n constructing this vs h
