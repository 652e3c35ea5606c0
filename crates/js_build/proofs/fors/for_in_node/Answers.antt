use Rattle.std.proofs.Common.{◌∙◌, Some, ap}
use Rattle.js_tree.specs.Height.{height_stmt}
use Rattle.js_tree.specs.Plain as tree
use Rattle.js_tree.specs.Tree.{plain_expr, plain_for_target, plain_stmt}
use Rattle.js_tree.proofs.Equations.{stmt_for_in}
use Rattle.js_build.proofs.MadeAs.{makes_stmt}
use Rattle.js_build.proofs.NodeMeasures.{highest_three}
use Rattle.js_build.proofs.fors.for_in_node.Goals as goal

pub statement-requires : goal.statement-requires
statement-requires c = ap height_stmt (stmt_for_in c.in_ok-target.target c.args.object.tree c.args.body.tree (Some c.args.place) ∙ ap (λ t. tree.ForIn (Some c.args.place) (plain_for_target t) (plain_expr c.args.object.tree) (plain_stmt c.args.body.tree)) c.in_ok-target.ensures) ∙ highest_three c.max-parts.ensures c.max.ensures c.requires c.args.object.height_exact c.args.body.height_exact

pub returns : goal.returns
returns c = makes_stmt c.statement.result (stmt_for_in c.in_ok-target.target c.args.object.tree c.args.body.tree (Some c.args.place) ∙ ap (λ t. tree.ForIn (Some c.args.place) (plain_for_target t) (plain_expr c.args.object.tree) (plain_stmt c.args.body.tree)) c.in_ok-target.ensures) c.statement.ensures
