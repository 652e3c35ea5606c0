use Rattle.std.proofs.Common.{◌∙◌, Some, sym, ap}
use Rattle.js_tree.specs.Plain as tree
use Rattle.js_reading.specs.Slots.{AStmt}
use Rattle.js_build.specs.View.{plain_pieces}
use Rattle.js_build.proofs.Forms.{of_one}
use Rattle.js_build.proofs.MadeAs.{makes_as}
use Rattle.js_build.proofs.StatementForms.{throw_form}
use Rattle.js_build.proofs.statements.throw.Goals as goal

pub returns-in-None : goal.returns-in-None
returns-in-None c = makes_as c.nothing.result (throw_form c.args.place (plain_pieces c.args.pieces) ∙ ap (λ x. of_one x (λ e. Some (AStmt (tree.Throw (Some c.args.place) e)))) (sym c.in-None.ensures)) c.nothing.ensures

pub returns-in-Some : goal.returns-in-Some
returns-in-Some c = makes_as c.throw_node.result (throw_form c.args.place (plain_pieces c.args.pieces) ∙ ap (λ x. of_one x (λ e. Some (AStmt (tree.Throw (Some c.args.place) e)))) (sym c.in-Some.ensures)) c.throw_node.ensures
