use Rattle.std.proofs.Common.{◌≡◌, sym, ap, ◌∙◌, arith}
use Rattle.js_tree.specs.Plain as P
use Rattle.js_code.specs.Code.{reader}
use Rattle.js_code.specs.Node.{build}
use Rattle.js_code.specs.Part.{as_stmts}
use Rattle.js_meaning.specs.Meaning as M
use Rattle.js_machine.specs.private.Config.{view_of, control_comp, stmt_at, stmts_at}
use Rattle.js_machine.specs.private.Weight.{place_weight, node_weight}
use Rattle.js_machine.proofs.OtherNodes as other
use Rattle.js_machine.proofs.Weights.{lighter}
use Rattle.js_machine.proofs.bodies.execute_all.Goals as goal

pub returns-in-None-list_of-clause-means : goal.returns-in-None-list_of-clause-means
returns-in-None-list_of-clause-means c = λ p.
    let t = view_of p c.args.code.now.nodes in
    let first = stmt_at t c.in-Some.first in
    let more : stmts_at t c.args.place ≡ P.more_stmt first (stmts_at t c.in-Some.rest) = ap as_stmts (c.node.ensures.read ∙ ap (build (reader c.args.code.now.nodes)) c.in-Some.ensures.more) in
    let none : stmts_at t c.in-Some.rest ≡ P.no_stmt = ap as_stmts c.node-in-Some.ensures.read ∙ other.no_stmts (reader c.args.code.now.nodes) c.node-in-Some.result.now (c.list_of-in-Some.ensures.end c.in-None-list_of.is) in
    ap (control_comp t) c.execute.ensures
    ∙ ap (λ xs. M.comp_stmts p (P.more_stmt first xs) c.args.env.index) (sym none) ∙ ap (λ xs. M.comp_stmts p xs c.args.env.index) (sym more)

pub returns-in-None-list_of-clause-less : goal.returns-in-None-list_of-clause-less
returns-in-None-list_of-clause-less c = rw c.execute.ensures (omega (arith, lighter c.args.place c.node.result.now c.node.ensures.below, ap (node_weight place_weight) c.in-Some.ensures.more))
