use Rattle.js_meaning.specs.Meaning as M
use Rattle.js_machine.specs.private.Config.{view_of, expr_at}
use Rattle.js_machine.proofs.AtOnce.{some_is}
use Rattle.js_machine.proofs.Assigned.{turns_on}
use Rattle.js_machine.proofs.assignments.assign.Goals as goal

pub returns-in_ok-done-in-Ok-Some-clause-turns : goal.returns-in_ok-done-in-Ok-Some-clause-turns
returns-in_ok-done-in-Ok-Some-clause-turns c = λ p otherwise. turns_on _ _ _ _ _ _
    (some_is _ _ _ c.in-Some.is c.in_ok-reference.ensures p otherwise
    (λ r. M.assigning c.args.operator r (expr_at (view_of p c.args.code.now.nodes) c.args.value) c.args.env.index (M.comp_expr p (expr_at (view_of p c.args.code.now.nodes) c.args.value) c.args.env.index)))
    (turns_on _ _ _ _ _ _ (some_is _ _ _ c.in-Ok-Some.field-0-is c.in-Ok-Some.ensures p) (c.in_ok-done-in-Ok-Some.ensures p))
