use Rattle.std.proofs.Common.{refl, sym, ◌∙◌}
use Rattle.js_grammar.proofs.Choosing.{chosen, otherwise}
use Rattle.js_grammar.proofs.heads.after_target.Goals as goal

pub returns-then-is_word : goal.returns-then-is_word
returns-then-is_word c = sym (chosen _ _ _ (sym c.is_word.ensures ∙ c.if-is_word.true))

pub returns-then-is_word-2 : goal.returns-then-is_word-2
returns-then-is_word-2 c = sym (otherwise _ _ _ _ (sym c.is_word.ensures ∙ c.if-is_word.false) (chosen _ _ _ (sym c.is_word-else-is_word.ensures ∙ c.if-is_word-2.true)))

pub returns-else-is_word-2 : goal.returns-else-is_word-2
returns-else-is_word-2 c = sym (otherwise _ _ _ _ (sym c.is_word.ensures ∙ c.if-is_word.false) (otherwise _ _ _ _ (sym c.is_word-else-is_word.ensures ∙ c.if-is_word-2.false) refl))
