use Rattle.std.proofs.Common.{ap, ◌∙◌}
use Rattle.js_code.specs.Code.{reader}
use Rattle.js_code.specs.Node.{build}
use Rattle.js_code.specs.Part.{as_stmt}
use Rattle.js_tree.specs.Plain as P
use Rattle.js_meaning.specs.Meaning as M
use Rattle.js_machine.specs.private.Config.{view_of}
use Rattle.js_machine.specs.private.Config.{expr_at}
use Rattle.js_machine.proofs.AtOnce.{found_then, done_then, stmt_turns}
use Rattle.js_machine.proofs.at_once.execute.Goals as goal

pub returns-in-Expression-clause-turns : goal.returns-in-Expression-clause-turns
returns-in-Expression-clause-turns c = found_then c.evaluate.result _ _ c.evaluate.ensures.turns (λ d turns p labels.
    stmt_turns p labels c.args.env.index _ (P.Expression c.in-Expression.loc (expr_at (view_of p c.args.code.now.nodes) c.in-Expression.expression)) _ _ _
    (ap as_stmt (c.node.ensures.read ∙ ap (build (reader c.args.code.now.nodes)) c.in-Expression.is))
    (done_then (M.comp_expr p (expr_at (view_of p c.args.code.now.nodes) c.in-Expression.expression) c.args.env.index) d (λ _. M.done) _ _ (turns p)))
