use Rattle.std.proofs.Common.{◌∙◌}
use Rattle.js_machine.proofs.Filed.{path_there, path_missing}
use Rattle.js_machine.proofs.file_actions.path_at.Goals as goal

pub returns-in-Some : goal.returns-in-Some
returns-in-Some c = λ p of. c.as_str.ensures ∙ path_there p c.args.code.now c.args.file c.in-Some.source.now of c.in-Some.ensures

pub returns-in-None : goal.returns-in-None
returns-in-None c = λ p of. path_missing p c.args.code.now c.args.file of c.in-None.ensures
