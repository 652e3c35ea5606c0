use Rattle.std.proofs.Common.{◌∙◌, sym, ap}
use Rattle.js_tree.specs.Tree.{plain_stmt}
use Rattle.js_build.specs.Names.{identifier_of}
use Rattle.js_build.specs.View.{plain_pieces}
use Rattle.js_build.proofs.Forms.{of_both}
use Rattle.js_build.proofs.MadeAs.{makes_as}
use Rattle.js_build.proofs.StatementForms.{labelled_form, labelled_piece}
use Rattle.js_build.proofs.statements.labelled.Goals as goal

pub returns-in-None : goal.returns-in-None
returns-in-None c = makes_as c.nothing.result (labelled_form c.args.place (plain_pieces c.args.pieces) ∙ ap (λ x. of_both x (λ e s. labelled_piece c.args.place (identifier_of e) s)) (sym c.in-None.ensures)) c.nothing.ensures

pub returns-in-None-into_identifier : goal.returns-in-None-into_identifier
returns-in-None-into_identifier c = makes_as c.nothing-in-None-into_identifier.result (labelled_form c.args.place (plain_pieces c.args.pieces) ∙ (ap (λ x. of_both x (λ e s. labelled_piece c.args.place (identifier_of e) s)) (sym c.in-Some.ensures) ∙ ap (λ x. labelled_piece c.args.place x (plain_stmt c.in-Some.body.tree)) (sym c.in-None-into_identifier.ensures))) c.nothing-in-None-into_identifier.ensures

pub returns-in-Some-into_identifier : goal.returns-in-Some-into_identifier
returns-in-Some-into_identifier c = makes_as c.labelled_node.result (labelled_form c.args.place (plain_pieces c.args.pieces) ∙ (ap (λ x. of_both x (λ e s. labelled_piece c.args.place (identifier_of e) s)) (sym c.in-Some.ensures) ∙ ap (λ x. labelled_piece c.args.place x (plain_stmt c.in-Some.body.tree)) (sym c.in-Some-into_identifier.ensures))) c.labelled_node.ensures
