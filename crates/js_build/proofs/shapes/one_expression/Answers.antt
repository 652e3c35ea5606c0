use Rattle.std.proofs.Common.{◌∙◌, sym, ap}
use Rattle.js_build.specs.Shapes.{if_over}
use Rattle.js_build.specs.View.{plain_operand, plain_pieces}
use Rattle.js_build.proofs.ShapeLaws.{alone, one_first}
use Rattle.js_build.proofs.shapes.one_expression.Goals as goal

pub returns-in-None : goal.returns-in-None
returns-in-None c = sym (one_first (plain_pieces c.args.pieces) ∙ ap alone (sym c.in-None.ensures))

pub returns-then-is_over : goal.returns-then-is_over
returns-then-is_over c = sym (one_first (plain_pieces c.args.pieces) ∙ (ap alone (sym c.in-Some.ensures) ∙ ap (λ b. if_over b (plain_operand c.in-Some.operand)) (sym c.is_over.ensures ∙ c.if-is_over.true)))

pub returns-else-is_over : goal.returns-else-is_over
returns-else-is_over c = sym (one_first (plain_pieces c.args.pieces) ∙ (ap alone (sym c.in-Some.ensures) ∙ ap (λ b. if_over b (plain_operand c.in-Some.operand)) (sym c.is_over.ensures ∙ c.if-is_over.false)))
