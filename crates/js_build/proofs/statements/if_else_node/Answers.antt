use Rattle.std.proofs.Common.{◌∙◌, Some, ap}
use Rattle.js_tree.specs.Height.{height_stmt}
use Rattle.js_build.proofs.Nodes.{if_with}
use Rattle.js_build.proofs.MadeAs.{makes_stmt}
use Rattle.js_build.proofs.NodeMeasures.{highest_three}
use Rattle.js_build.proofs.statements.if_else_node.Goals as goal

pub statement-requires : goal.statement-requires
statement-requires c = ap height_stmt (if_with c.args.test.tree c.args.then.tree c.args.otherwise.tree (Some c.args.place)) ∙ highest_three c.max-parts.ensures c.max.ensures c.args.test.height_exact c.args.then.height_exact c.args.otherwise.height_exact

pub returns : goal.returns
returns c = makes_stmt c.statement.result (if_with c.args.test.tree c.args.then.tree c.args.otherwise.tree (Some c.args.place)) c.statement.ensures
