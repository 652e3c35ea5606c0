use Rattle.js_counted.proofs.Counts.{counters_count}
use Rattle.js_counted.proofs.counting.Goals as goal

pub returns : goal.returns
returns c = counters_count
