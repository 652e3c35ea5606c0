use Rattle.std.proofs.Common.{◌∙◌, Some, ap}
use Rattle.js_tree.specs.Height.{height_stmt}
use Rattle.js_tree.proofs.Equations.{stmt_variable_declaration}
use Rattle.js_build.proofs.MadeAs.{makes_stmt}
use Rattle.js_build.proofs.NodeMeasures.{one_same}
use Rattle.js_build.proofs.declarations.variables_node.Goals as goal

pub statement-requires : goal.statement-requires
statement-requires c = ap height_stmt (stmt_variable_declaration c.args.kind c.args.made.items (Some c.args.place)) ∙ one_same c.args.made.height_exact

pub returns : goal.returns
returns c = makes_stmt c.statement.result (stmt_variable_declaration c.args.kind c.args.made.items (Some c.args.place)) c.statement.ensures
