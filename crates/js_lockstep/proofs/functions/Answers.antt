use Rattle.js_suits.specs.Settings.{setting_of}
use Rattle.js_lockstep.proofs.Coded.{codes_stand}
use Rattle.js_lockstep.proofs.functions.Goals as goal

pub returns : goal.returns
returns c = λ t p su added silent all. codes_stand (setting_of t) p su added silent all
