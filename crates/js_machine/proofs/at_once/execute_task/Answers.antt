use Rattle.std.proofs.Common.{subst, ap, ◌∙◌, arith}
use Rattle.js_code.specs.Code.{reader}
use Rattle.js_code.specs.Node.{build}
use Rattle.js_code.specs.Part.{as_stmt}
use Rattle.js_tree.specs.Plain as P
use Rattle.js_meaning.specs.Effects.{handle}
use Rattle.js_meaning.specs.Meaning as M
use Rattle.js_machine.specs.private.Config.{view_of, control_comp, expr_at, labels_of, stmt_at, stmt_if}
use Rattle.js_machine.specs.private.State.{Turns}
use Rattle.js_machine.specs.private.Weight.{place_weight, node_weight}
use Rattle.js_machine.proofs.Weights.{heavy, lighter}
use Rattle.js_machine.proofs.AtOnce.{found_then, stmt_turns}
use Rattle.js_machine.proofs.at_once.execute_task.Goals as goal

pub returns-in_ok-enter_block-in-Block-clause-less : goal.returns-in_ok-enter_block-in-Block-clause-less
returns-in_ok-enter_block-in-Block-clause-less c = omega (arith, c.in_ok-enter_block-in-Block.ensures.less, lighter c.args.place c.node.result.now c.node.ensures.below, ap (node_weight place_weight) c.in-Block.is)

pub returns-in-If-clause-turns : goal.returns-in-If-clause-turns
returns-in-If-clause-turns c = found_then c.choose_one.result _ _ c.choose_one.ensures.turns (λ control turns p.
    stmt_turns p (labels_of (view_of p c.args.code.now.nodes) c.args.labels.now) c.args.env.index _ (P.If c.in-If.loc (expr_at (view_of p c.args.code.now.nodes) c.in-If.test) (stmt_at (view_of p c.args.code.now.nodes) c.in-If.holds) (stmt_if (view_of p c.args.code.now.nodes) c.in-If.fails)) _ _ _
    (ap as_stmt (c.node.ensures.read ∙ ap (build (reader c.args.code.now.nodes)) c.in-If.is)) (turns p))

pub returns-in-If-clause-less : goal.returns-in-If-clause-less
returns-in-If-clause-less c = found_then c.choose_one.result _ _ c.choose_one.ensures.less (λ control less. omega (arith, less place_weight, lighter c.args.place c.node.result.now c.node.ensures.below, ap (node_weight place_weight) c.in-If.is))

pub returns-in-While-clause-turns : goal.returns-in-While-clause-turns
returns-in-While-clause-turns c = found_then c.choose_turn.result _ _ c.choose_turn.ensures.turns (λ control turns p.
    let is = (ap as_stmt (c.node.ensures.read ∙ ap (build (reader c.args.code.now.nodes)) c.in-While.is)) in
    stmt_turns p (labels_of (view_of p c.args.code.now.nodes) c.args.labels.now) c.args.env.index _ (P.While c.in-While.loc (expr_at (view_of p c.args.code.now.nodes) c.in-While.test) (stmt_at (view_of p c.args.code.now.nodes) c.in-While.body)) _ _ _ is
    (subst (λ x. Turns (handle (M.comp_expr p (expr_at (view_of p c.args.code.now.nodes) c.in-While.test) c.args.env.index) (M.with_value (M.turn x (labels_of (view_of p c.args.code.now.nodes) c.args.labels.now) c.args.env.index))) c.args.heap.now (control_comp (view_of p c.args.code.now.nodes) control) c.args.heap.now) is (turns p)))

pub returns-in-While-clause-less : goal.returns-in-While-clause-less
returns-in-While-clause-less c = found_then c.choose_turn.result _ _ c.choose_turn.ensures.less (λ control less. omega (arith, less place_weight, heavy c.args.place))

pub returns-in-Return-clause-less : goal.returns-in-Return-clause-less
returns-in-Return-clause-less c = found_then c.return_task.result _ _ c.return_task.ensures.less (λ control less. omega (arith, less place_weight, heavy c.args.place))

pub returns-in_default-clause-turns : goal.returns-in_default-clause-turns
returns-in_default-clause-turns c = found_then c.execute_expression.result _ _ c.execute_expression.ensures.turns (λ control turns p. turns p (labels_of (view_of p c.args.code.now.nodes) c.args.labels.now))

pub returns-in_default-clause-less : goal.returns-in_default-clause-less
returns-in_default-clause-less c = found_then c.execute_expression.result _ _ c.execute_expression.ensures.less (λ control less. omega (arith, less place_weight, heavy c.args.place))
