use Rattle.std.proofs.Common.{[], ◌∷◌, ◌++◌, sym, subst, ap, ◌∙◌}
use Rattle.js_code.specs.Code.{reader}
use Rattle.js_code.specs.Node.{build}
use Rattle.js_code.specs.Part.{as_exprs}
use Rattle.js_meaning.specs.Meaning as M
use Rattle.js_machine.specs.private.Config.{view_of}
use Rattle.js_machine.specs.private.State.{Turns}
use Rattle.js_machine.proofs.OtherNodes as other
use Rattle.js_machine.proofs.AtOnce.{some_is}
use Rattle.js_machine.proofs.Assigned.{turns_on, values_on}
use Rattle.js_machine.proofs.operand_calls.operands.Goals as goal

pub values-preserved : goal.values-preserved
values-preserved c = λ p next. turns_on _ _ _ _ _ _ (c.values.invariant p next)
    (subst (λ vs. Turns (M.comp_values p (as_exprs (reader c.args.code.now.nodes c.values.at)) c.args.env.index c.values.values next) c.args.heap.now (M.comp_values p (as_exprs (reader c.args.code.now.nodes c.in-Some.rest)) c.args.env.index vs next) c.args.heap.now)
    (sym c.in_ok-push-in-Some.ensures.ok)
    (subst (λ xs. Turns (M.comp_values p xs c.args.env.index c.values.values next) c.args.heap.now (M.comp_values p (as_exprs (reader c.args.code.now.nodes c.in-Some.rest)) c.args.env.index (c.values.values ++ c.in-Some-2.value ∷ []) next) c.args.heap.now)
    (sym (ap as_exprs (c.node.ensures.read ∙ ap (build (reader c.args.code.now.nodes)) c.in-Some.ensures.more)))
    (values_on (view_of p c.args.code.now.nodes) c.in-Some.first c.in-Some.rest c.args.env.index c.args.heap.now c.values.values c.in-Some-2.value next (some_is _ _ _ c.in-Some-2.is c.in_ok-value-in-Some.ensures p))))

pub returns-in-None : goal.returns-in-None
returns-in-None c = λ p next. subst (λ xs. Turns (M.comp_values p (as_exprs (reader c.args.code.now.nodes c.args.place)) c.args.env.index [] next) c.args.heap.now (M.comp_values p xs c.args.env.index c.values.values next) c.args.heap.now)
    (ap as_exprs c.node.ensures.read ∙ other.no_exprs (reader c.args.code.now.nodes) c.node.result.now (c.list_of.ensures.end c.in-None.is)) (c.values.invariant p next)
