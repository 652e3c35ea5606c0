use Rattle.std.proofs.Common.{◌∙◌, ◌∷◌, sym, ap, rules}
use Rattle.js_build.specs.Shapes.{first_expr}
use Rattle.js_build.specs.View.{plain_pieces}
use Rattle.js_build.proofs.shapes.take_expression.Goals as goal

pub returns-in-Some-Expression : goal.returns-in-Some-Expression
returns-in-Some-Expression c = sym (ap (λ ps. first_expr (plain_pieces ps)) (c.in-Some-Expression.ensures.next ∙ ap (λ p. p ∷ c.next.new.self) c.in-Some-Expression.field-0-is))

pub returns-in_default : goal.returns-in_default
returns-in_default c = search rules
