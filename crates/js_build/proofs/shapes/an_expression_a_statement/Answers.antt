use Rattle.std.proofs.Common.{◌∙◌, sym, ap}
use Rattle.js_build.specs.View.{plain_operand, plain_pieces}
use Rattle.js_build.proofs.ShapeLaws.{and_stmt, before_stmt, both_first}
use Rattle.js_build.proofs.shapes.an_expression_a_statement.Goals as goal

pub returns-in-None : goal.returns-in-None
returns-in-None c = sym (both_first (plain_pieces c.args.pieces) ∙ ap and_stmt (sym c.in-None.ensures))

pub returns-in-None-one_statement : goal.returns-in-None-one_statement
returns-in-None-one_statement c = sym (both_first (plain_pieces c.args.pieces) ∙ ap and_stmt (sym c.in-Some.ensures) ∙ ap (before_stmt (plain_operand c.in-Some.operand)) (sym c.in-None-one_statement.ensures))

pub returns-in-Some-one_statement : goal.returns-in-Some-one_statement
returns-in-Some-one_statement c = sym (both_first (plain_pieces c.args.pieces) ∙ ap and_stmt (sym c.in-Some.ensures) ∙ ap (before_stmt (plain_operand c.in-Some.operand)) (sym c.in-Some-one_statement.ensures))
