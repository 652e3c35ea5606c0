use Rattle.std.proofs.Common.{refl, sym, ◌∙◌}
use Rattle.js_grammar.proofs.Choosing.{chosen, otherwise}
use Rattle.js_grammar.proofs.heads.head.Goals as goal

pub returns-then-is_mark : goal.returns-then-is_mark
returns-then-is_mark c = sym (chosen _ _ _ (sym c.is_mark.ensures ∙ c.if-is_mark.true))

pub returns-then-is_word : goal.returns-then-is_word
returns-then-is_word c = sym (otherwise _ _ _ _ (sym c.is_mark.ensures ∙ c.if-is_mark.false) (chosen _ _ _ (sym c.is_word.ensures ∙ c.if-is_word.true)))

pub returns-then-is_word-2 : goal.returns-then-is_word-2
returns-then-is_word-2 c = sym (otherwise _ _ _ _ (sym c.is_mark.ensures ∙ c.if-is_mark.false) (otherwise _ _ _ _ (sym c.is_word.ensures ∙ c.if-is_word.false) (chosen _ _ _ (sym c.is_word-else-is_word.ensures ∙ c.if-is_word-2.true))))

pub returns-then-is_word-3 : goal.returns-then-is_word-3
returns-then-is_word-3 c = sym (otherwise _ _ _ _ (sym c.is_mark.ensures ∙ c.if-is_mark.false) (otherwise _ _ _ _ (sym c.is_word.ensures ∙ c.if-is_word.false) (otherwise _ _ _ _ (sym c.is_word-else-is_word.ensures ∙ c.if-is_word-2.false) (chosen _ _ _ (sym c.is_word-else-is_word-2.ensures ∙ c.if-is_word-3.true)))))

pub returns-else-is_word-3 : goal.returns-else-is_word-3
returns-else-is_word-3 c = sym (otherwise _ _ _ _ (sym c.is_mark.ensures ∙ c.if-is_mark.false) (otherwise _ _ _ _ (sym c.is_word.ensures ∙ c.if-is_word.false) (otherwise _ _ _ _ (sym c.is_word-else-is_word.ensures ∙ c.if-is_word-2.false) (otherwise _ _ _ _ (sym c.is_word-else-is_word-2.ensures ∙ c.if-is_word-3.false) refl))))
