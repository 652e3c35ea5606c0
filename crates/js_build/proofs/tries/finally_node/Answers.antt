use Rattle.std.proofs.Common.{◌∙◌, Some, ap}
use Rattle.js_tree.specs.Height.{height_stmt}
use Rattle.js_tree.proofs.Equations.{stmt_try_finally}
use Rattle.js_build.proofs.MadeAs.{makes_stmt}
use Rattle.js_build.proofs.NodeMeasures.{highest_same}
use Rattle.js_build.proofs.tries.finally_node.Goals as goal

pub statement-requires : goal.statement-requires
statement-requires c = ap height_stmt (stmt_try_finally c.args.block.items c.args.last.items (Some c.args.place)) ∙ highest_same c.max-parts.ensures c.args.block.height_exact c.args.last.height_exact

pub returns : goal.returns
returns c = makes_stmt c.statement.result (stmt_try_finally c.args.block.items c.args.last.items (Some c.args.place)) c.statement.ensures
