use Rattle.std.proofs.Common.{◌≡◌, ◌∙◌, ◌∷◌, IfOk, sym, ap, subst, rules}
use Rattle.std.specs.Option.{option_map}
use Rattle.js_reading.specs.Makes.{concise}
use Rattle.js_build.specs.Callables.{concise_view}
use Rattle.js_build.specs.View.{plain_pieces}
use Rattle.js_build.proofs.arrows.concise.Goals as goal

pub returns-in-Some-Expression : goal.returns-in-Some-Expression
returns-in-Some-Expression c = subst (λ due. IfOk c.expression_body.result (λ made. option_map concise_view made ≡ due)) (sym (ap (λ ps. concise (plain_pieces ps)) (c.in-Some-Expression.ensures.next ∙ ap (λ p. p ∷ c.next.new.self) c.in-Some-Expression.field-0-is))) c.expression_body.ensures

pub returns-in-Some-Place : goal.returns-in-Some-Place
returns-in-Some-Place c = subst (λ due. IfOk c.block_body.result (λ made. option_map concise_view made ≡ due)) (sym (ap (λ ps. concise (plain_pieces ps)) (c.in-Some-Place.ensures.next ∙ ap (λ p. p ∷ c.next.new.self) c.in-Some-Place.field-0-is))) c.block_body.ensures

pub returns-in_default : goal.returns-in_default
returns-in_default c = search rules
