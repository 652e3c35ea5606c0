use Rattle.std.proofs.Common.{[], sym, subst, ap, ◌∙◌, arith}
use Rattle.js_code.specs.Code.{reader}
use Rattle.js_code.specs.Node.{build}
use Rattle.js_code.specs.Part.{as_stmts}
use Rattle.js_tree.specs.Plain as P
use Rattle.js_meaning.specs.Meaning as M
use Rattle.js_machine.specs.private.Config.{view_of, stmt_at, stmts_at}
use Rattle.js_machine.specs.private.State.{Turns}
use Rattle.js_machine.specs.private.Weight.{place_weight, node_weight}
use Rattle.js_machine.proofs.Weights.{lighter}
use Rattle.js_machine.proofs.AtOnce.{some_is, first_turns, stmts_turns}
use Rattle.js_machine.proofs.at_once.first_task.Goals as goal

pub returns-in-Some-2-clause-turns : goal.returns-in-Some-2-clause-turns
returns-in-Some-2-clause-turns c = λ p.
    stmts_turns p c.args.env.index (stmts_at (view_of p c.args.code.now.nodes) c.args.place) (P.more_stmt (stmt_at (view_of p c.args.code.now.nodes) c.in-Some.first) (stmts_at (view_of p c.args.code.now.nodes) c.in-Some.rest)) _ _ _
    (ap as_stmts (c.node.ensures.read ∙ ap (build (reader c.args.code.now.nodes)) c.in-Some.ensures.more))
    (subst (λ d. Turns (M.comp_stmts p (P.more_stmt (stmt_at (view_of p c.args.code.now.nodes) c.in-Some.first) (stmts_at (view_of p c.args.code.now.nodes) c.in-Some.rest)) c.args.env.index) c.args.heap.now d c.execute.new.heap) (sym (c.before-in-Some-2.ensures.means (view_of p c.args.code.now.nodes)))
    (first_turns p (stmt_at (view_of p c.args.code.now.nodes) c.in-Some.first) (stmts_at (view_of p c.args.code.now.nodes) c.in-Some.rest) c.args.env.index c.in-Some-2.done _ _
    (some_is _ _ _ c.in-Some-2.is c.in_ok-done-in-Some.ensures.turns p [])))

pub returns-in-Some-2-clause-less : goal.returns-in-Some-2-clause-less
returns-in-Some-2-clause-less c = omega (arith, c.before-in-Some-2.ensures.less place_weight, lighter c.args.place c.node.result.now c.node.ensures.below, ap (node_weight place_weight) c.in-Some.ensures.more)
