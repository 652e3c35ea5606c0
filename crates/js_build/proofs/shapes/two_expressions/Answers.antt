use Rattle.std.proofs.Common.{◌∙◌, sym, ap}
use Rattle.js_build.specs.View.{plain_operand, plain_pieces}
use Rattle.js_build.proofs.ShapeLaws.{and_one, paired, two_first}
use Rattle.js_build.proofs.shapes.two_expressions.Goals as goal

pub returns-in-None : goal.returns-in-None
returns-in-None c = sym (two_first (plain_pieces c.args.pieces) ∙ ap and_one (sym c.in-None.ensures))

pub returns-in-None-one_expression : goal.returns-in-None-one_expression
returns-in-None-one_expression c = sym (two_first (plain_pieces c.args.pieces) ∙ (ap and_one (sym c.in-Some.ensures) ∙ ap (paired (plain_operand c.in-Some.left)) (sym c.in-None-one_expression.ensures)))

pub returns-in-Some-one_expression : goal.returns-in-Some-one_expression
returns-in-Some-one_expression c = sym (two_first (plain_pieces c.args.pieces) ∙ (ap and_one (sym c.in-Some.ensures) ∙ ap (paired (plain_operand c.in-Some.left)) (sym c.in-Some-one_expression.ensures)))
