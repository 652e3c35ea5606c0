use Rattle.std.proofs.Common.{◌∙◌, ◌∷◌, sym, ap, rules}
use Rattle.js_build.specs.Fors.{first_maybe}
use Rattle.js_build.specs.View.{plain_pieces}
use Rattle.js_build.proofs.shapes.take_maybe.Goals as goal

pub returns-in-Some-Missing : goal.returns-in-Some-Missing
returns-in-Some-Missing c = sym (ap (λ ps. first_maybe (plain_pieces ps)) (c.in-Some-Missing.ensures.next ∙ ap (λ p. p ∷ c.next.new.self) c.in-Some-Missing.field-0-is))

pub returns-in-Some-Expression : goal.returns-in-Some-Expression
returns-in-Some-Expression c = sym (ap (λ ps. first_maybe (plain_pieces ps)) (c.in-Some-Expression.ensures.next ∙ ap (λ p. p ∷ c.next.new.self) c.in-Some-Expression.field-0-is))

pub returns-in_default : goal.returns-in_default
returns-in_default c = search rules
