use Rattle.std.proofs.Common.{sym, subst, if◌then◌else◌, rules, to_z-of_z, w64}
use mir.Val.{SFits}
use Rattle.js_value.specs.UnaryOperators.{stepped}
use Rattle.js_meaning.specs.Effects.{handle}
use Rattle.js_meaning.specs.Meaning as M
use Rattle.js_machine.specs.private.Config.{view_of, reference_of}
use Rattle.js_machine.specs.private.State.{Turns}
use Rattle.js_machine.proofs.AtOnce.{some_is}
use Rattle.js_machine.proofs.Assigned.{turns_on, step_turns}
use Rattle.js_machine.proofs.assignments.update_reference.Goals as goal

pub returns-in_ok-done-in-Ok-clause-turns : goal.returns-in_ok-done-in-Ok-clause-turns
returns-in_ok-done-in-Ok-clause-turns c = λ p.
    let r : M.Reference = reference_of (view_of p c.args.code.now.nodes) c.args.reference in
    let f : SFits w64 c.in-Ok-Some.old = search rules in
    let g : SFits w64 c.in-Ok.new = search rules in
    let stepped_to = simp to_z-of_z at c.in-Ok.ensures.ok in
    let put = simp to_z-of_z at (c.in_ok-done-in-Ok.ensures p) in
    let after = simp to_z-of_z at c.before_number.ensures in
    turns_on _ _ _ _ _ _
    (some_is _ _ _ c.in-Ok-Some.field-0-is c.in-Ok-Some.ensures p (λ old. M.numbered (stepped c.args.operator old) (λ new. handle (M.put_value c.args.env.index r (M.number_value new)) (M.with_value (λ w. M.give (M.number_value (if c.args.prefix then new else old)))))))
    (subst (λ d. Turns (M.numbered (stepped c.args.operator c.in-Ok-Some.old) (λ new. handle (M.put_value c.args.env.index r (M.number_value new)) (M.with_value (λ w. M.give (M.number_value (if c.args.prefix then new else c.in-Ok-Some.old)))))) c.args.heap.now d c.put.new.heap)
    (sym after) (step_turns c.args.operator c.args.prefix c.args.env.index r c.in-Ok-Some.old c.in-Ok.new c.in_ok-done-in-Ok.done c.args.heap.now c.put.new.heap stepped_to put))
