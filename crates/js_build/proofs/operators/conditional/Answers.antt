use Rattle.std.proofs.Common.{◌∙◌, Some, sym, ap}
use Rattle.js_tree.specs.Plain as tree
use Rattle.js_reading.specs.Slots.{AnExpr}
use Rattle.js_build.specs.View.{plain_pieces}
use Rattle.js_build.proofs.Forms.{conditional_form, of_three}
use Rattle.js_build.proofs.MadeAs.{makes_as}
use Rattle.js_build.proofs.operators.conditional.Goals as goal

pub returns-in-None : goal.returns-in-None
returns-in-None c = makes_as c.nothing.result (conditional_form c.args.place (plain_pieces c.args.pieces) ∙ ap (λ x. of_three x (λ a b d. Some (AnExpr 3 (tree.Conditional (Some c.args.place) a b d)))) (sym c.in-None.ensures)) c.nothing.ensures

pub returns-in-Some : goal.returns-in-Some
returns-in-Some c = makes_as c.conditional_node.result (conditional_form c.args.place (plain_pieces c.args.pieces) ∙ ap (λ x. of_three x (λ a b d. Some (AnExpr 3 (tree.Conditional (Some c.args.place) a b d)))) (sym c.in-Some.ensures)) c.conditional_node.ensures
