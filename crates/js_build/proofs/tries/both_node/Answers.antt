use Rattle.std.proofs.Common.{◌∙◌, Some, ap}
use Rattle.js_tree.specs.Height.{height_stmt}
use Rattle.js_tree.specs.Plain as tree
use Rattle.js_tree.specs.Tree.{plain_catch, plain_stmts}
use Rattle.js_tree.proofs.Equations.{stmt_try_catch_finally}
use Rattle.js_build.proofs.MadeAs.{makes_stmt}
use Rattle.js_build.proofs.NodeMeasures.{highest_three, max_of}
use Rattle.js_build.proofs.tries.both_node.Goals as goal

pub statement-requires : goal.statement-requires
statement-requires c = ap height_stmt (stmt_try_catch_finally c.args.block.items c.in_ok-clause.clause c.args.last.items (Some c.args.place) ∙ ap (λ x. tree.TryCatchFinally (Some c.args.place) (plain_stmts c.args.block.items) x (plain_stmts c.args.last.items)) (ap plain_catch c.in_ok-clause.ensures ∙ c.catch_clause.ensures)) ∙ highest_three c.max-parts.ensures c.max.ensures c.args.block.height_exact (max_of _ _ _ _ _ c.max-height.ensures c.parameter_height.ensures c.args.statements.height_exact) c.args.last.height_exact

pub returns : goal.returns
returns c = makes_stmt c.statement.result (stmt_try_catch_finally c.args.block.items c.in_ok-clause.clause c.args.last.items (Some c.args.place) ∙ ap (λ x. tree.TryCatchFinally (Some c.args.place) (plain_stmts c.args.block.items) x (plain_stmts c.args.last.items)) (ap plain_catch c.in_ok-clause.ensures ∙ c.catch_clause.ensures)) c.statement.ensures
