use Rattle.std.proofs.Common.{◌∙◌, Some, sym, ap}
use Rattle.js_tree.specs.Plain as tree
use Rattle.js_reading.specs.Slots.{AStmt}
use Rattle.js_build.specs.Shapes.{if_over}
use Rattle.js_build.specs.View.{plain_pieces}
use Rattle.js_build.proofs.JumpForms.{empty_form}
use Rattle.js_build.proofs.MadeAs.{makes_as}
use Rattle.js_build.proofs.jumps.empty.Goals as goal

pub returns-then-is_over : goal.returns-then-is_over
returns-then-is_over c = makes_as c.empty_node.result (empty_form c.args.place (plain_pieces c.args.pieces) ∙ ap (λ b. if_over b (AStmt (tree.Empty (Some c.args.place)))) (sym c.is_over.ensures ∙ c.if-is_over.true)) c.empty_node.ensures

pub returns-else-is_over : goal.returns-else-is_over
returns-else-is_over c = makes_as c.nothing.result (empty_form c.args.place (plain_pieces c.args.pieces) ∙ ap (λ b. if_over b (AStmt (tree.Empty (Some c.args.place)))) (sym c.is_over.ensures ∙ c.if-is_over.false)) c.nothing.ensures
