use Rattle.std.proofs.Common.{Some, ap}
use Rattle.js_tree.specs.Height.{height_stmt}
use Rattle.js_build.proofs.Nodes.{return_without}
use Rattle.js_build.proofs.MadeAs.{makes_stmt}
use Rattle.js_build.proofs.statements.return_node.Goals as goal

pub statement-requires : goal.statement-requires
statement-requires c = ap height_stmt (return_without (Some c.args.place))

pub returns : goal.returns
returns c = makes_stmt c.statement.result (return_without (Some c.args.place)) c.statement.ensures
