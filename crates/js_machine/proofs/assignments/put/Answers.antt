use Rattle.std.proofs.lemmas.Result.{IfOk-weaker}
use Rattle.js_machine.proofs.assignments.put.Goals as goal

pub returns-in-Member : goal.returns-in-Member
returns-in-Member c = IfOk-weaker c.put_by_key-done.result _ _ (λ done turns p. rw c.in-Member.is (turns p)) c.put_by_key-done.ensures
