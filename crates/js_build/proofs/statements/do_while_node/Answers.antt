use Rattle.std.proofs.Common.{◌∙◌, Some, ap}
use Rattle.js_tree.specs.Height.{height_stmt}
use Rattle.js_tree.proofs.Equations.{stmt_do_while}
use Rattle.js_build.proofs.MadeAs.{makes_stmt}
use Rattle.js_build.proofs.NodeMeasures.{highest_same}
use Rattle.js_build.proofs.statements.do_while_node.Goals as goal

pub statement-requires : goal.statement-requires
statement-requires c = ap height_stmt (stmt_do_while c.args.body.tree c.args.test.tree (Some c.args.place)) ∙ highest_same c.max-parts.ensures c.args.body.height_exact c.args.test.height_exact

pub returns : goal.returns
returns c = makes_stmt c.statement.result (stmt_do_while c.args.body.tree c.args.test.tree (Some c.args.place)) c.statement.ensures
