use Rattle.std.proofs.Common.{◌∙◌, sym, ap}
use Rattle.js_build.specs.View.{plain_operand, plain_pieces}
use Rattle.js_build.proofs.ShapeLaws.{and_two, before_two, three_first}
use Rattle.js_build.proofs.shapes.three_expressions.Goals as goal

pub returns-in-None : goal.returns-in-None
returns-in-None c = sym (three_first (plain_pieces c.args.pieces) ∙ ap and_two (sym c.in-None.ensures))

pub returns-in-None-two_expressions : goal.returns-in-None-two_expressions
returns-in-None-two_expressions c = sym (three_first (plain_pieces c.args.pieces) ∙ (ap and_two (sym c.in-Some.ensures) ∙ ap (before_two (plain_operand c.in-Some.first)) (sym c.in-None-two_expressions.ensures)))

pub returns-in-Some-two_expressions : goal.returns-in-Some-two_expressions
returns-in-Some-two_expressions c = sym (three_first (plain_pieces c.args.pieces) ∙ (ap and_two (sym c.in-Some.ensures) ∙ ap (before_two (plain_operand c.in-Some.first)) (sym c.in-Some-two_expressions.ensures)))
