use Rattle.std.proofs.Common.{◌∙◌, Some, ap, arith}
use Rattle.js_tree.specs.Height.{height_stmt}
use Rattle.js_build.proofs.Nodes.{if_without}
use Rattle.js_build.proofs.MadeAs.{makes_stmt}
use Rattle.js_build.proofs.statements.if_node.Goals as goal

pub statement-requires : goal.statement-requires
statement-requires c = ap height_stmt (if_without c.args.test.tree c.args.then.tree (Some c.args.place)) ∙ omega (arith, c.max-parts.ensures, c.args.test.height_exact, c.args.then.height_exact)

pub returns : goal.returns
returns c = makes_stmt c.statement.result (if_without c.args.test.tree c.args.then.tree (Some c.args.place)) c.statement.ensures
