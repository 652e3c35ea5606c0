use Rattle.std.proofs.Common.{◌∙◌, Some, ap}
use Rattle.js_tree.specs.Height.{height_stmt}
use Rattle.js_build.proofs.Nodes.{return_with}
use Rattle.js_build.proofs.MadeAs.{makes_stmt}
use Rattle.js_build.proofs.NodeMeasures.{one_same}
use Rattle.js_build.proofs.statements.return_value_node.Goals as goal

pub statement-requires : goal.statement-requires
statement-requires c = ap height_stmt (return_with c.args.value.tree (Some c.args.place)) ∙ one_same c.args.value.height_exact

pub returns : goal.returns
returns c = makes_stmt c.statement.result (return_with c.args.value.tree (Some c.args.place)) c.statement.ensures
