use Rattle.js_counter.proofs.Worked.{opens}
use Rattle.js_counter.proofs.example.Goals as goal

pub returns : goal.returns
returns c = opens
