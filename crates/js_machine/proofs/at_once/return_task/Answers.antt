use Rattle.std.proofs.Common.{sym, subst, ap, ◌∙◌}
use Rattle.js_meaning.specs.Meaning as M
use Rattle.js_machine.specs.private.Config.{view_of, control_comp, expr_or}
use Rattle.js_machine.specs.private.State.{Turns}
use Rattle.js_machine.proofs.AtOnce.{found_then}
use Rattle.js_machine.proofs.at_once.return_task.Goals as goal

pub returns-in-Some-clause-turns : goal.returns-in-Some-clause-turns
returns-in-Some-clause-turns c = found_then c.return_operand.result _ _ c.return_operand.ensures.turns (λ control turns p.
    subst (λ e. Turns (M.returned p e c.args.env.index) c.args.heap.now (control_comp (view_of p c.args.code.now.nodes) control) c.args.heap.now) (sym (c.there.ensures.expr p ∙ ap (expr_or (view_of p c.args.code.now.nodes)) c.in-Some.is)) (turns p))
