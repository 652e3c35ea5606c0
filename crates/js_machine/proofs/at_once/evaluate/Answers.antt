use Rattle.std.proofs.Common.{refl, subst, ap, ◌∙◌}
use Rattle.js_code.specs.Code.{reader}
use Rattle.js_code.specs.Node.{build}
use Rattle.js_code.specs.Part.{as_expr}
use Rattle.js_tree.specs.Plain as P
use Rattle.js_value.specs.declared.deed.Complaint.TheVariants.{NotAssignable}
use Rattle.js_meaning.specs.Meaning as M
use Rattle.js_machine.specs.private.AtOnce.{done_comp}
use Rattle.js_machine.specs.private.Config.{view_of, expr_at}
use Rattle.js_machine.specs.private.State.{Turns}
use Rattle.js_machine.proofs.AtOnce.{found_then, expr_turns}
use Rattle.js_machine.proofs.at_once.evaluate.Goals as goal

pub returns-in-Assignment-clause-turns : goal.returns-in-Assignment-clause-turns
returns-in-Assignment-clause-turns c = found_then c.assign.result _ _ c.assign.ensures.turns (λ d turns p.
    expr_turns p c.args.env.index _ (P.Assignment c.in-Assignment.loc c.in-Assignment.operator (expr_at (view_of p c.args.code.now.nodes) c.in-Assignment.target) (expr_at (view_of p c.args.code.now.nodes) c.in-Assignment.value)) _ _ _
    (ap as_expr (c.node.ensures.read ∙ ap (build (reader c.args.code.now.nodes)) c.in-Assignment.is))
    (subst (λ o. Turns (M.comp_reference p (expr_at (view_of p c.args.code.now.nodes) c.in-Assignment.target) c.args.env.index (M.complain NotAssignable)
    (λ r. M.assigning o r (expr_at (view_of p c.args.code.now.nodes) c.in-Assignment.value) c.args.env.index (M.comp_expr p (expr_at (view_of p c.args.code.now.nodes) c.in-Assignment.value) c.args.env.index))) c.args.heap.now (done_comp d) c.assign.new.heap)
    c.operator_of.ensures (turns p (M.complain NotAssignable))))

pub returns-in-PostfixUpdate-clause-turns : goal.returns-in-PostfixUpdate-clause-turns
returns-in-PostfixUpdate-clause-turns c = found_then c.update.result _ _ c.update.ensures.turns (λ d turns p.
    expr_turns p c.args.env.index _ (P.PostfixUpdate c.in-PostfixUpdate.loc c.in-PostfixUpdate.operator (expr_at (view_of p c.args.code.now.nodes) c.in-PostfixUpdate.target)) _ _ _
    (ap as_expr (c.node.ensures.read ∙ ap (build (reader c.args.code.now.nodes)) c.in-PostfixUpdate.is)) (turns p (M.complain NotAssignable)))

pub returns-in-PrefixUpdate-clause-turns : goal.returns-in-PrefixUpdate-clause-turns
returns-in-PrefixUpdate-clause-turns c = found_then c.update-in-PrefixUpdate.result _ _ c.update-in-PrefixUpdate.ensures.turns (λ d turns p.
    expr_turns p c.args.env.index _ (P.PrefixUpdate c.in-PrefixUpdate.loc c.in-PrefixUpdate.operator (expr_at (view_of p c.args.code.now.nodes) c.in-PrefixUpdate.target)) _ _ _
    (ap as_expr (c.node.ensures.read ∙ ap (build (reader c.args.code.now.nodes)) c.in-PrefixUpdate.is)) (turns p (M.complain NotAssignable)))

pub returns-in_default-clause-turns : goal.returns-in_default-clause-turns
returns-in_default-clause-turns c = c.give_operand.ensures

pub returns-in-Assignment-clause-none : goal.returns-in-Assignment-clause-none
returns-in-Assignment-clause-none c = c.assign.ensures.none

pub returns-in-PostfixUpdate-clause-none : goal.returns-in-PostfixUpdate-clause-none
returns-in-PostfixUpdate-clause-none c = c.update.ensures.none

pub returns-in-PrefixUpdate-clause-none : goal.returns-in-PrefixUpdate-clause-none
returns-in-PrefixUpdate-clause-none c = c.update-in-PrefixUpdate.ensures.none

pub returns-in_default-clause-none : goal.returns-in_default-clause-none
returns-in_default-clause-none c = λ none. refl
