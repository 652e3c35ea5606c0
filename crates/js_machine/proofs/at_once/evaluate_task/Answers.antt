use Rattle.std.proofs.Common.{ap, ◌∙◌, arith}
use Rattle.js_code.specs.Code.{reader}
use Rattle.js_code.specs.Node.{build}
use Rattle.js_code.specs.Part.{as_expr, as_exprs}
use Rattle.js_tree.specs.Plain as P
use Rattle.js_machine.specs.private.Config.{view_of, expr_at}
use Rattle.js_machine.specs.private.Weight.{place_weight, node_weight}
use Rattle.js_machine.proofs.Weights.{heavy, lighter}
use Rattle.js_machine.proofs.AtOnce.{found_then, expr_turns}
use Rattle.js_machine.proofs.at_once.evaluate_task.Goals as goal

pub returns-in-Call-clause-turns : goal.returns-in-Call-clause-turns
returns-in-Call-clause-turns c = found_then c.call_of_operands.result _ _ c.call_of_operands.ensures.turns (λ control turns p.
    expr_turns p c.args.env.index _ (P.Call c.in-Call.loc (expr_at (view_of p c.args.code.now.nodes) c.in-Call.callee) (as_exprs (reader c.args.code.now.nodes c.in-Call.arguments))) _ _ _
    (ap as_expr (c.node.ensures.read ∙ ap (build (reader c.args.code.now.nodes)) c.in-Call.is)) (turns p _))

pub returns-in-Call-clause-less : goal.returns-in-Call-clause-less
returns-in-Call-clause-less c = found_then c.call_of_operands.result _ _ c.call_of_operands.ensures.less (λ control less. omega (arith, less place_weight, heavy c.args.place))

pub returns-in-Conditional-clause-turns : goal.returns-in-Conditional-clause-turns
returns-in-Conditional-clause-turns c = found_then c.choose_expression.result _ _ c.choose_expression.ensures.turns (λ control turns p.
    expr_turns p c.args.env.index _ (P.Conditional c.in-Conditional.loc (expr_at (view_of p c.args.code.now.nodes) c.in-Conditional.test) (expr_at (view_of p c.args.code.now.nodes) c.in-Conditional.holds) (expr_at (view_of p c.args.code.now.nodes) c.in-Conditional.fails)) _ _ _
    (ap as_expr (c.node.ensures.read ∙ ap (build (reader c.args.code.now.nodes)) c.in-Conditional.is)) (turns p))

pub returns-in-Conditional-clause-less : goal.returns-in-Conditional-clause-less
returns-in-Conditional-clause-less c = found_then c.choose_expression.result _ _ c.choose_expression.ensures.less (λ control less. omega (arith, less place_weight, lighter c.args.place c.node.result.now c.node.ensures.below, ap (node_weight place_weight) c.in-Conditional.is))

pub returns-in-Logical-clause-turns : goal.returns-in-Logical-clause-turns
returns-in-Logical-clause-turns c = found_then c.choose_operand.result _ _ c.choose_operand.ensures.turns (λ control turns p.
    expr_turns p c.args.env.index _ (P.Logical c.in-Logical.loc c.in-Logical.operator (expr_at (view_of p c.args.code.now.nodes) c.in-Logical.left) (expr_at (view_of p c.args.code.now.nodes) c.in-Logical.right)) _ _ _
    (ap as_expr (c.node.ensures.read ∙ ap (build (reader c.args.code.now.nodes)) c.in-Logical.is)) (turns p))

pub returns-in-Logical-clause-less : goal.returns-in-Logical-clause-less
returns-in-Logical-clause-less c = found_then c.choose_operand.result _ _ c.choose_operand.ensures.less (λ control less. omega (arith, less place_weight, lighter c.args.place c.node.result.now c.node.ensures.below, ap (node_weight place_weight) c.in-Logical.is))

pub returns-in_default-clause-less : goal.returns-in_default-clause-less
returns-in_default-clause-less c = found_then c.give.result _ _ c.give.ensures.less (λ control less. omega (arith, less place_weight, heavy c.args.place))
