use Rattle.std.proofs.Common.{sym, subst, arith}
use Rattle.js_meaning.specs.Effects.{Comp}
use Rattle.js_machine.specs.private.Config.{view_of, control_comp}
use Rattle.js_machine.specs.private.State.{Turns}
use Rattle.js_machine.proofs.AtOnce.{found_then}
use Rattle.js_machine.proofs.at_once.at_once.Goals as goal

pub returns-in-Some-clause-turns : goal.returns-in-Some-clause-turns
returns-in-Some-clause-turns c = found_then c.evaluate_task.result _ _ c.evaluate_task.ensures.turns (λ control turns p.
    subst (λ (x : Comp). Turns x c.args.heap.now (control_comp (view_of p c.args.code.now.nodes) control) c.evaluate_task.new.heap) (sym (c.in-Some.ensures.means p)) (turns p))

pub returns-in-Some-clause-less : goal.returns-in-Some-clause-less
returns-in-Some-clause-less c = found_then c.evaluate_task.result _ _ c.evaluate_task.ensures.less (λ control less. omega (arith, less, c.in-Some.ensures.less))
