use Rattle.std.proofs.Common.{◌∙◌, Some, sym, ap}
use Rattle.js_tree.specs.Plain as tree
use Rattle.js_reading.specs.Slots.{AnExpr}
use Rattle.js_build.specs.View.{plain_pieces}
use Rattle.js_build.proofs.Forms.{of_one, unary_form}
use Rattle.js_build.proofs.MadeAs.{makes_as}
use Rattle.js_build.proofs.operators.unary.Goals as goal

pub returns-in-None : goal.returns-in-None
returns-in-None c = makes_as c.nothing.result (unary_form c.args.operator c.args.place (plain_pieces c.args.pieces) ∙ ap (λ x. of_one x (λ e. Some (AnExpr 16 (tree.Unary (Some c.args.place) c.args.operator e)))) (sym c.in-None.ensures)) c.nothing.ensures

pub returns-in-Some : goal.returns-in-Some
returns-in-Some c = makes_as c.unary_node.result (unary_form c.args.operator c.args.place (plain_pieces c.args.pieces) ∙ ap (λ x. of_one x (λ e. Some (AnExpr 16 (tree.Unary (Some c.args.place) c.args.operator e)))) (sym c.in-Some.ensures)) c.unary_node.ensures
