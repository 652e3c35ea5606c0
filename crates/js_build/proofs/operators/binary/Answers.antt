use Rattle.std.proofs.Common.{◌∙◌, Some, sym, ap}
use Rattle.js_tree.specs.Plain as tree
use Rattle.js_reading.specs.Level.{binary_level}
use Rattle.js_reading.specs.Slots.{AnExpr}
use Rattle.js_build.specs.View.{plain_pieces}
use Rattle.js_build.proofs.Forms.{binary_form, of_two}
use Rattle.js_build.proofs.MadeAs.{makes_as}
use Rattle.js_build.proofs.operators.binary.Goals as goal

pub returns-in-None : goal.returns-in-None
returns-in-None c = makes_as c.nothing.result (binary_form c.args.operator c.args.place (plain_pieces c.args.pieces) ∙ ap (λ x. of_two x (λ a b. Some (AnExpr (binary_level c.args.operator) (tree.Binary (Some c.args.place) c.args.operator a b)))) (sym c.in-None.ensures)) c.nothing.ensures

pub returns-in-Some : goal.returns-in-Some
returns-in-Some c = makes_as c.binary_node.result (binary_form c.args.operator c.args.place (plain_pieces c.args.pieces) ∙ ap (λ x. of_two x (λ a b. Some (AnExpr (binary_level c.args.operator) (tree.Binary (Some c.args.place) c.args.operator a b)))) (sym c.in-Some.ensures)) c.binary_node.ensures
