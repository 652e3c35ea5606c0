use Rattle.std.proofs.Common.{◌∙◌, ◌∷◌, sym, ap, rules}
use Rattle.js_build.specs.CallShapes.{one_name}
use Rattle.js_build.specs.Shapes.{if_over}
use Rattle.js_build.specs.View.{plain_pieces}
use Rattle.js_build.proofs.calls.one_name.Goals as goal

pub returns-then-is_over : goal.returns-then-is_over
returns-then-is_over c = sym (ap (λ ps. one_name (plain_pieces ps)) (c.in-Some-Word.ensures.next ∙ ap (λ p. p ∷ c.next.new.self) c.in-Some-Word.field-0-is) ∙ ap (λ b. if_over b c.in-Some-Word.name) (sym c.is_over.ensures ∙ c.if-is_over.true))

pub returns-else-is_over : goal.returns-else-is_over
returns-else-is_over c = sym (ap (λ ps. one_name (plain_pieces ps)) (c.in-Some-Word.ensures.next ∙ ap (λ p. p ∷ c.next.new.self) c.in-Some-Word.field-0-is) ∙ ap (λ b. if_over b c.in-Some-Word.name) (sym c.is_over.ensures ∙ c.if-is_over.false))

pub returns-in_default : goal.returns-in_default
returns-in_default c = search rules
