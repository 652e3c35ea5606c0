use Rattle.std.proofs.Common.{◌∙◌, ◌∷◌, ap, rules}
use Rattle.js_reading.specs.Makes.{build}
use Rattle.js_reading.specs.declared.form.Form.TheVariants as form
use Rattle.js_build.specs.View.{plain_pieces}
use Rattle.js_build.proofs.MadeAs.{makes_as}
use Rattle.js_build.proofs.functions.function_expression.Goals as goal

pub returns-in-Some-Missing : goal.returns-in-Some-Missing
returns-in-Some-Missing c = makes_as c.named.result (ap (λ ps. build form.FunctionExpression c.args.place (plain_pieces ps)) (c.in-Some-Missing.ensures.next ∙ ap (λ p. p ∷ c.next.new.self) c.in-Some-Missing.field-0-is)) c.named.ensures

pub returns-in-Some-Word : goal.returns-in-Some-Word
returns-in-Some-Word c = makes_as c.named-in-Some-Word.result (ap (λ ps. build form.FunctionExpression c.args.place (plain_pieces ps)) (c.in-Some-Word.ensures.next ∙ ap (λ p. p ∷ c.next.new.self) c.in-Some-Word.field-0-is)) c.named-in-Some-Word.ensures

pub returns-in_default : goal.returns-in_default
returns-in_default c = search rules
