use Rattle.std.proofs.Common.{◌∙◌, ◌∷◌, length, ap, arith, rules}
use Rattle.js_build.specs.View.{plain_pieces}
use Rattle.js_build.proofs.declarations.take_word.Goals as goal

pub returns-in-Some-Word-clause-word : goal.returns-in-Some-Word-clause-word
returns-in-Some-Word-clause-word c = ap plain_pieces (c.in-Some-Word.ensures.next ∙ ap (λ p. p ∷ c.next.new.self) c.in-Some-Word.field-0-is)

pub returns-in-Some-Word-clause-shorter : goal.returns-in-Some-Word-clause-shorter
returns-in-Some-Word-clause-shorter c = omega (arith, ap length c.in-Some-Word.ensures.next)

pub returns-in_default-clause-other : goal.returns-in_default-clause-other
returns-in_default-clause-other c = search rules

pub returns-in_default-clause-no_word : goal.returns-in_default-clause-no_word
returns-in_default-clause-no_word c = search rules
