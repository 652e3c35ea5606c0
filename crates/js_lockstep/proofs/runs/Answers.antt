use Rattle.js_suits.specs.Settings.{setting_of}
use Rattle.js_lockstep.proofs.Theorem.{runs_in_step}
use Rattle.js_lockstep.proofs.runs.Goals as goal

pub returns : goal.returns
returns c = λ t p su k file n room. runs_in_step (setting_of t) p su k file n room
