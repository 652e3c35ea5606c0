use Rattle.js_meaning.specs.Meaning as M
use Rattle.js_machine.proofs.AtOnce.{found_then, some_is}
use Rattle.js_machine.proofs.Assigned.{turns_on}
use Rattle.js_machine.proofs.assignments.update.Goals as goal

pub returns-in-Some-clause-turns : goal.returns-in-Some-clause-turns
returns-in-Some-clause-turns c = found_then c.update_reference.result _ _ c.update_reference.ensures.turns (λ done turns p otherwise.
    turns_on _ _ _ _ _ _ (some_is _ _ _ c.in-Some.is c.in_ok-reference.ensures p otherwise (M.updates c.args.prefix c.args.operator c.args.env.index)) (turns p))
