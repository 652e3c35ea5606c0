use Rattle.js_counted.proofs.Numbers.{entries_counted}
use Rattle.js_counted.proofs.entries.Goals as goal

pub returns : goal.returns
returns c = entries_counted
