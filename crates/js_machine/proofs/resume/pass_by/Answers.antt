use Rattle.js_machine.proofs.Forms.{waits_long}
use Rattle.js_machine.proofs.resume.pass_by.Goals as goal

pub returns-clause-less : goal.returns-clause-less
returns-clause-less c = λ w. waits_long w c.args.pending
