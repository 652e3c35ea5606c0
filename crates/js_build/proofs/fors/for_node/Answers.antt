use Rattle.std.proofs.Common.{◌≡◌, ◌∙◌, Some, sym, ap, arith}
use Rattle.js_tree.specs.Height.{height_stmt}
use Rattle.js_tree.specs.Plain as tree
use Rattle.js_tree.specs.Tree.{plain_expr_if, plain_for_init, plain_stmt}
use Rattle.js_tree.proofs.Equations.{stmt_for}
use Rattle.js_tree.specs.declared.tree.StmtNode.TheVariants as node
use Rattle.js_reading.specs.Slots.{AStmt}
use Rattle.js_build.specs.Lists.{test_view}
use Rattle.js_build.specs.View.{stmt_node}
use Rattle.js_build.proofs.MadeAs.{makes_as}
use Rattle.js_build.proofs.fors.for_node.Goals as goal

pub returns : goal.returns
returns c =
    let is : stmt_node (node.For c.in_ok-init.init c.part-test.result.0 c.part-update.result.0 c.args.body.tree) c.args.place ≡ tree.For (Some c.args.place) (plain_for_init c.args.init) (test_view c.args.test) (test_view c.args.update) (plain_stmt c.args.body.tree) = stmt_for c.in_ok-init.init c.part-test.result.0 c.part-update.result.0 c.args.body.tree (Some c.args.place) ∙ (ap (λ i. tree.For (Some c.args.place) (plain_for_init i) (plain_expr_if c.part-test.result.0) (plain_expr_if c.part-update.result.0) (plain_stmt c.args.body.tree)) c.in_ok-init.ensures ∙ (ap (λ x. tree.For (Some c.args.place) (plain_for_init c.args.init) x (plain_expr_if c.part-update.result.0) (plain_stmt c.args.body.tree)) c.part-test.ensures.tree ∙ ap (λ x. tree.For (Some c.args.place) (plain_for_init c.args.init) (test_view c.args.test) x (plain_stmt c.args.body.tree)) c.part-update.ensures.tree)) in
    makes_as c.statement.result (ap (λ s. Some (AStmt s)) (sym is)) c.statement.ensures

pub statement-requires : goal.statement-requires
statement-requires c =
    let is : stmt_node (node.For c.in_ok-init.init c.part-test.result.0 c.part-update.result.0 c.args.body.tree) c.args.place ≡ tree.For (Some c.args.place) (plain_for_init c.args.init) (test_view c.args.test) (test_view c.args.update) (plain_stmt c.args.body.tree) = stmt_for c.in_ok-init.init c.part-test.result.0 c.part-update.result.0 c.args.body.tree (Some c.args.place) ∙ (ap (λ i. tree.For (Some c.args.place) (plain_for_init i) (plain_expr_if c.part-test.result.0) (plain_expr_if c.part-update.result.0) (plain_stmt c.args.body.tree)) c.in_ok-init.ensures ∙ (ap (λ x. tree.For (Some c.args.place) (plain_for_init c.args.init) x (plain_expr_if c.part-update.result.0) (plain_stmt c.args.body.tree)) c.part-test.ensures.tree ∙ ap (λ x. tree.For (Some c.args.place) (plain_for_init c.args.init) (test_view c.args.test) x (plain_stmt c.args.body.tree)) c.part-update.ensures.tree)) in
    ap height_stmt is ∙ omega (arith, c.requires, c.part-test.ensures.height, c.part-update.ensures.height, c.args.body.height_exact, c.max.ensures, c.max-2.ensures, c.max-parts.ensures)
