use Rattle.js_suits.specs.Settings.{setting_of}
use Rattle.js_lockstep.proofs.Opened.{links_file}
use Rattle.js_lockstep.proofs.Relinked.{again_linked}
use Rattle.js_lockstep.proofs.Unchanged.{leaves_unmarked}
use Rattle.js_lockstep.proofs.links.Goals as goal

pub returns-clause-again : goal.returns-clause-again
returns-clause-again c = λ t shift home alone xs k first e o. again_linked (setting_of t) shift alone home xs k first e o

pub returns-clause-file : goal.returns-clause-file
returns-clause-file c = links_file

pub returns-clause-unmarked : goal.returns-clause-unmarked
returns-clause-unmarked c = λ t shift home xs k j e. leaves_unmarked (setting_of t) shift home xs k j e
