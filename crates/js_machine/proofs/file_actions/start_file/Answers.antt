use Rattle.std.proofs.Common.{ap}
use Rattle.std.proofs.lemmas.Result.{IfOk-weaker}
use Rattle.js_machine.specs.private.Config.{view_of, control_comp}
use Rattle.js_machine.proofs.Filed.{file_there, file_missing}
use Rattle.js_machine.proofs.Stores.{becomes_same}
use Rattle.js_machine.proofs.file_actions.start_file.Goals as goal

pub returns-in-Some-clause-becomes : goal.returns-in-Some-clause-becomes
returns-in-Some-clause-becomes c = IfOk-weaker c.start_source.result _ _ (λ control means p base carries.
    let f = file_there p c.args.code.now c.args.file c.in-Some.source.now carries.code_of c.in-Some.ensures in
    let counted = carries.uncounted c.args.file f.of f.there in
    rw (f.there, counted) (means p c.args.code.now.nodes f.of base f.reads counted)) c.start_source.ensures.becomes

pub returns-in-None-clause-becomes : goal.returns-in-None-clause-becomes
returns-in-None-clause-becomes c = λ p base carries.
    rw (file_missing p c.args.code.now c.args.file carries.code_of c.in-None.ensures) (becomes_same _ _ _ (ap (control_comp (view_of p c.args.code.now.nodes)) c.undefined.ensures))
