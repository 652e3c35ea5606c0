use Rattle.std.proofs.Common.{◌∙◌, Some, sym, ap}
use Rattle.js_tree.specs.Plain as tree
use Rattle.js_tree.specs.Tree.{plain_stmts}
use Rattle.js_reading.specs.Slots.{AStmt}
use Rattle.js_build.specs.Shapes.{if_over}
use Rattle.js_build.specs.View.{plain_pieces}
use Rattle.js_build.proofs.MadeAs.{makes_as}
use Rattle.js_build.proofs.StatementForms.{block_after, block_form}
use Rattle.js_build.proofs.statements.block.Goals as goal

pub returns-in-None : goal.returns-in-None
returns-in-None c = makes_as c.nothing.result (block_form c.args.place (plain_pieces c.args.pieces) ∙ ap (block_after c.args.place) (sym c.in-None.ensures.read)) c.nothing.ensures

pub returns-then-is_over : goal.returns-then-is_over
returns-then-is_over c = makes_as c.block_node.result (block_form c.args.place (plain_pieces c.args.pieces) ∙ (ap (block_after c.args.place) (sym c.in-Some.ensures.read) ∙ ap (λ b. if_over b (AStmt (tree.Block (Some c.args.place) (plain_stmts c.in-Some.statements.items)))) (sym c.is_over.ensures ∙ c.if-is_over.true))) c.block_node.ensures

pub returns-else-is_over : goal.returns-else-is_over
returns-else-is_over c = makes_as c.nothing-else-is_over.result (block_form c.args.place (plain_pieces c.args.pieces) ∙ (ap (block_after c.args.place) (sym c.in-Some.ensures.read) ∙ ap (λ b. if_over b (AStmt (tree.Block (Some c.args.place) (plain_stmts c.in-Some.statements.items)))) (sym c.is_over.ensures ∙ c.if-is_over.false))) c.nothing-else-is_over.ensures
