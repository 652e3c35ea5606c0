use Rattle.std.proofs.Common.{◌∙◌, Some, ap}
use Rattle.js_tree.specs.Height.{height_stmt}
use Rattle.js_tree.proofs.Equations.{stmt_switch}
use Rattle.js_build.proofs.MadeAs.{makes_stmt}
use Rattle.js_build.proofs.NodeMeasures.{highest_same}
use Rattle.js_build.proofs.switches.switch_node.Goals as goal

pub statement-requires : goal.statement-requires
statement-requires c = ap height_stmt (stmt_switch c.args.value.tree c.args.cases.items (Some c.args.place)) ∙ highest_same c.max-parts.ensures c.args.value.height_exact c.args.cases.height_exact

pub returns : goal.returns
returns c = makes_stmt c.statement.result (stmt_switch c.args.value.tree c.args.cases.items (Some c.args.place)) c.statement.ensures
