use Rattle.std.proofs.Common.{refl, sym, ◌∙◌}
use Rattle.js_grammar.proofs.Choosing.{chosen, otherwise}
use Rattle.js_grammar.proofs.statements.handler.Goals as goal

pub returns-then-is_word : goal.returns-then-is_word
returns-then-is_word c = sym (chosen _ _ _ (sym c.is_word.ensures ∙ c.if-is_word.true))

pub returns-else-is_word : goal.returns-else-is_word
returns-else-is_word c = sym (otherwise _ _ _ _ (sym c.is_word.ensures ∙ c.if-is_word.false) refl)
