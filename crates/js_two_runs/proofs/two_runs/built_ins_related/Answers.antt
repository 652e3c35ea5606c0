use Rattle.js_two_runs.specs.Pairs.{Paired}
use Rattle.js_two_runs.proofs.TwoRunsObjects.{all-rel}
use Rattle.js_two_runs.proofs.two_runs.built_ins_related.Goals as goal

pub returns : goal.returns
returns c = λ pairs f constructing this that vs ws h k hk r rs. all-rel (Paired pairs) h k hk f constructing this that vs ws r rs
