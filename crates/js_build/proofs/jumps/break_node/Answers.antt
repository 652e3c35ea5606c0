use Rattle.std.proofs.Common.{Some, ap}
use Rattle.js_tree.specs.Height.{height_stmt}
use Rattle.js_tree.proofs.Equations.{stmt_break}
use Rattle.js_build.proofs.MadeAs.{makes_stmt}
use Rattle.js_build.proofs.jumps.break_node.Goals as goal

pub statement-requires : goal.statement-requires
statement-requires c = ap height_stmt (stmt_break c.args.label (Some c.args.place))

pub returns : goal.returns
returns c = makes_stmt c.statement.result (stmt_break c.args.label (Some c.args.place)) c.statement.ensures
