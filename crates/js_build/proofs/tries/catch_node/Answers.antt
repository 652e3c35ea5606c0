use Rattle.std.proofs.Common.{◌∙◌, Some, ap}
use Rattle.js_tree.specs.Height.{height_stmt}
use Rattle.js_tree.specs.Plain as tree
use Rattle.js_tree.specs.Tree.{plain_catch, plain_stmts}
use Rattle.js_tree.proofs.Equations.{stmt_try_catch}
use Rattle.js_build.proofs.MadeAs.{makes_stmt}
use Rattle.js_build.proofs.NodeMeasures.{highest_three}
use Rattle.js_build.proofs.tries.catch_node.Goals as goal

pub statement-requires : goal.statement-requires
statement-requires c = ap height_stmt (stmt_try_catch c.args.block.items c.in_ok-clause.clause (Some c.args.place) ∙ ap (λ x. tree.TryCatch (Some c.args.place) (plain_stmts c.args.block.items) x) (ap plain_catch c.in_ok-clause.ensures ∙ c.catch_clause.ensures)) ∙ highest_three c.max-parts.ensures c.max-height.ensures c.args.block.height_exact c.parameter_height.ensures c.args.statements.height_exact

pub returns : goal.returns
returns c = makes_stmt c.statement.result (stmt_try_catch c.args.block.items c.in_ok-clause.clause (Some c.args.place) ∙ ap (λ x. tree.TryCatch (Some c.args.place) (plain_stmts c.args.block.items) x) (ap plain_catch c.in_ok-clause.ensures ∙ c.catch_clause.ensures)) c.statement.ensures
