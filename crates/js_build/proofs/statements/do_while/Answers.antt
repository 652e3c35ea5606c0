use Rattle.std.proofs.Common.{◌∙◌, Some, sym, ap}
use Rattle.js_tree.specs.Plain as tree
use Rattle.js_tree.specs.Tree.{plain_stmt}
use Rattle.js_reading.specs.Slots.{AStmt}
use Rattle.js_build.specs.View.{plain_pieces}
use Rattle.js_build.proofs.Forms.{of_one}
use Rattle.js_build.proofs.MadeAs.{makes_as}
use Rattle.js_build.proofs.StatementForms.{do_after, do_while_form}
use Rattle.js_build.proofs.statements.do_while.Goals as goal

pub returns-in-None : goal.returns-in-None
returns-in-None c = makes_as c.nothing.result (do_while_form c.args.place (plain_pieces c.args.pieces) ∙ ap (do_after c.args.place) (sym c.in-None.ensures)) c.nothing.ensures

pub returns-in-None-one_expression : goal.returns-in-None-one_expression
returns-in-None-one_expression c = makes_as c.nothing-in-None-one_expression.result (do_while_form c.args.place (plain_pieces c.args.pieces) ∙ (ap (do_after c.args.place) (sym c.in-Some.ensures) ∙ ap (λ x. of_one x (λ e. Some (AStmt (tree.DoWhile (Some c.args.place) (plain_stmt c.in-Some.body.tree) e)))) (sym c.in-None-one_expression.ensures))) c.nothing-in-None-one_expression.ensures

pub returns-in-Some-one_expression : goal.returns-in-Some-one_expression
returns-in-Some-one_expression c = makes_as c.do_while_node.result (do_while_form c.args.place (plain_pieces c.args.pieces) ∙ (ap (do_after c.args.place) (sym c.in-Some.ensures) ∙ ap (λ x. of_one x (λ e. Some (AStmt (tree.DoWhile (Some c.args.place) (plain_stmt c.in-Some.body.tree) e)))) (sym c.in-Some-one_expression.ensures))) c.do_while_node.ensures
