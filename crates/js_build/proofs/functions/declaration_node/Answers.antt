use Rattle.std.proofs.Common.{◌∙◌, Some, ap}
use Rattle.js_tree.specs.Height.{height_stmt}
use Rattle.js_tree.proofs.Equations.{stmt_function_declaration}
use Rattle.js_build.proofs.MadeAs.{makes_stmt}
use Rattle.js_build.proofs.functions.declaration_node.Goals as goal

pub statement-requires : goal.statement-requires
statement-requires c = ap height_stmt (stmt_function_declaration c.args.name c.args.function.tree (Some c.args.place)) ∙ c.args.function.height_exact

pub returns : goal.returns
returns c = makes_stmt c.statement.result (stmt_function_declaration c.args.name c.args.function.tree (Some c.args.place)) c.statement.ensures
