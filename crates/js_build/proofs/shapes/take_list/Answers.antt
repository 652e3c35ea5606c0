use Rattle.std.proofs.Common.{◌∙◌, ◌∷◌, sym, ap, rules}
use Rattle.js_build.specs.Parentheses.{first_list}
use Rattle.js_build.specs.View.{plain_pieces}
use Rattle.js_build.proofs.shapes.take_list.Goals as goal

pub returns-in_default : goal.returns-in_default
returns-in_default c = search rules

pub returns-in-Some-Expressions : goal.returns-in-Some-Expressions
returns-in-Some-Expressions c = sym (ap (λ ps. first_list (plain_pieces ps)) (c.in-Some-Expressions.ensures.next ∙ ap (λ p. p ∷ c.next.new.self) c.in-Some-Expressions.field-0-is))
