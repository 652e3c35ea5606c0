use Rattle.std.proofs.Common.{◌≡◌, rules, to_z, of_z, w64}
use Rattle.std.proofs.lemmas.Int.{to_z-of_z}
use Rattle.js_machine.proofs.AtOnce.{some_is}
use Rattle.js_machine.proofs.Assigned.{number_turns}
use Rattle.js_machine.proofs.assignments.get_number.Goals as goal

pub returns-in-Ok : goal.returns-in-Ok
returns-in-Ok c = λ p next.
    let same : to_z w64 (of_z w64 c.in-Ok.number) ≡ c.in-Ok.number = to_z-of_z w64 c.in-Ok.number (search rules) in
    rw same (number_turns _ _ c.in-Ok.number next c.args.heap.now (some_is _ _ _ c.in-Some.is c.in_ok-value.ensures p) c.in-Ok.ensures.ok)
