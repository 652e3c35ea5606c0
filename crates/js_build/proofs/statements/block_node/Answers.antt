use Rattle.std.proofs.Common.{◌∙◌, Some, ap}
use Rattle.js_tree.specs.Height.{height_stmt}
use Rattle.js_tree.proofs.Equations.{stmt_block}
use Rattle.js_build.proofs.MadeAs.{makes_stmt}
use Rattle.js_build.proofs.NodeMeasures.{one_same}
use Rattle.js_build.proofs.statements.block_node.Goals as goal

pub statement-requires : goal.statement-requires
statement-requires c = ap height_stmt (stmt_block c.args.statements.items (Some c.args.place)) ∙ one_same c.args.statements.height_exact

pub returns : goal.returns
returns c = makes_stmt c.statement.result (stmt_block c.args.statements.items (Some c.args.place)) c.statement.ensures
