use Rattle.std.proofs.Common.{◌∙◌, Some, sym, ap}
use Rattle.js_tree.specs.Plain as tree
use Rattle.js_reading.specs.Slots.{AStmt}
use Rattle.js_build.specs.Shapes.{if_over}
use Rattle.js_build.specs.View.{plain_pieces}
use Rattle.js_build.proofs.JumpForms.{debugger_form}
use Rattle.js_build.proofs.MadeAs.{makes_as}
use Rattle.js_build.proofs.jumps.debugger.Goals as goal

pub returns-then-is_over : goal.returns-then-is_over
returns-then-is_over c = makes_as c.debugger_node.result (debugger_form c.args.place (plain_pieces c.args.pieces) ∙ ap (λ b. if_over b (AStmt (tree.Debugger (Some c.args.place)))) (sym c.is_over.ensures ∙ c.if-is_over.true)) c.debugger_node.ensures

pub returns-else-is_over : goal.returns-else-is_over
returns-else-is_over c = makes_as c.nothing.result (debugger_form c.args.place (plain_pieces c.args.pieces) ∙ ap (λ b. if_over b (AStmt (tree.Debugger (Some c.args.place)))) (sym c.is_over.ensures ∙ c.if-is_over.false)) c.nothing.ensures
