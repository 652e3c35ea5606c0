use Rattle.std.proofs.Common.{◌∙◌, Some, sym, ap}
use Rattle.js_tree.specs.Plain as tree
use Rattle.js_reading.specs.Slots.{AnExpr}
use Rattle.js_build.specs.View.{plain_pieces}
use Rattle.js_build.proofs.Forms.{comma_form, of_two}
use Rattle.js_build.proofs.MadeAs.{makes_as}
use Rattle.js_build.proofs.operators.comma.Goals as goal

pub returns-in-None : goal.returns-in-None
returns-in-None c = makes_as c.nothing.result (comma_form c.args.place (plain_pieces c.args.pieces) ∙ ap (λ x. of_two x (λ a b. Some (AnExpr 1 (tree.Comma (Some c.args.place) a b)))) (sym c.in-None.ensures)) c.nothing.ensures

pub returns-in-Some : goal.returns-in-Some
returns-in-Some c = makes_as c.comma_node.result (comma_form c.args.place (plain_pieces c.args.pieces) ∙ ap (λ x. of_two x (λ a b. Some (AnExpr 1 (tree.Comma (Some c.args.place) a b)))) (sym c.in-Some.ensures)) c.comma_node.ensures
