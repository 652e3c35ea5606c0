use Rattle.js_counted.proofs.Runs.{counters_run}
use Rattle.js_counted.proofs.running.Goals as goal

pub returns : goal.returns
returns c = counters_run
