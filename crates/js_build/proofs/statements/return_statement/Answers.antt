use Rattle.std.proofs.Common.{◌∙◌, sym, ap}
use Rattle.js_build.specs.View.{plain_pieces}
use Rattle.js_build.proofs.MadeAs.{makes_as}
use Rattle.js_build.proofs.StatementForms.{return_form, return_of}
use Rattle.js_build.proofs.statements.return_statement.Goals as goal

pub returns-in-None : goal.returns-in-None
returns-in-None c = makes_as c.nothing.result (return_form c.args.place (plain_pieces c.args.pieces) ∙ ap (return_of c.args.place) (sym c.in-None.ensures)) c.nothing.ensures

pub returns-in-Some-None : goal.returns-in-Some-None
returns-in-Some-None c = makes_as c.return_node.result (return_form c.args.place (plain_pieces c.args.pieces) ∙ ap (return_of c.args.place) (sym (rw c.in-Some-None.field-0-is at c.in-Some-None.ensures))) c.return_node.ensures

pub returns-in-Some-Some : goal.returns-in-Some-Some
returns-in-Some-Some c = makes_as c.return_value_node.result (return_form c.args.place (plain_pieces c.args.pieces) ∙ ap (return_of c.args.place) (sym (rw c.in-Some-Some.field-0-is at c.in-Some-Some.ensures))) c.return_value_node.ensures
