use Rattle.js_lockstep.proofs.Opened.{opens_files, opens_in_order}
use Rattle.js_lockstep.proofs.openings.Goals as goal

pub returns-clause-files : goal.returns-clause-files
returns-clause-files c = opens_files

pub returns-clause-order : goal.returns-clause-order
returns-clause-order c = opens_in_order
