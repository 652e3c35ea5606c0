use Rattle.std.proofs.Common.{Some, ap}
use Rattle.js_tree.specs.Height.{height_stmt}
use Rattle.js_tree.proofs.Equations.{stmt_continue}
use Rattle.js_build.proofs.MadeAs.{makes_stmt}
use Rattle.js_build.proofs.jumps.continue_node.Goals as goal

pub statement-requires : goal.statement-requires
statement-requires c = ap height_stmt (stmt_continue c.args.label (Some c.args.place))

pub returns : goal.returns
returns c = makes_stmt c.statement.result (stmt_continue c.args.label (Some c.args.place)) c.statement.ensures
