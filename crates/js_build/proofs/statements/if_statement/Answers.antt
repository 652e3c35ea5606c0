use Rattle.std.proofs.Common.{◌∙◌, sym, ap}
use Rattle.js_build.specs.View.{plain_operand, plain_pieces}
use Rattle.js_build.proofs.MadeAs.{makes_as}
use Rattle.js_build.proofs.StatementForms.{if_after, if_form, if_then}
use Rattle.js_build.proofs.statements.if_statement.Goals as goal

pub returns-in-None : goal.returns-in-None
returns-in-None c = makes_as c.nothing.result (if_form c.args.place (plain_pieces c.args.pieces) ∙ ap (if_after c.args.place) (sym c.in-None.ensures)) c.nothing.ensures

pub returns-in-None-take_statement : goal.returns-in-None-take_statement
returns-in-None-take_statement c = makes_as c.nothing-in-None-take_statement.result (if_form c.args.place (plain_pieces c.args.pieces) ∙ (ap (if_after c.args.place) (sym c.in-Some.ensures) ∙ ap (if_then c.args.place (plain_operand c.in-Some.test)) (sym c.in-None-take_statement.ensures))) c.nothing-in-None-take_statement.ensures

pub returns-in-Some-take_statement : goal.returns-in-Some-take_statement
returns-in-Some-take_statement c = makes_as c.if_rest.result (if_form c.args.place (plain_pieces c.args.pieces) ∙ (ap (if_after c.args.place) (sym c.in-Some.ensures) ∙ ap (if_then c.args.place (plain_operand c.in-Some.test)) (sym c.in-Some-take_statement.ensures))) c.if_rest.ensures
