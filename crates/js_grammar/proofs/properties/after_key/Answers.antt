use Rattle.std.proofs.Common.{refl, sym, ◌∙◌}
use Rattle.js_grammar.proofs.Choosing.{chosen, otherwise}
use Rattle.js_grammar.proofs.properties.after_key.Goals as goal

pub returns-then-is_mark : goal.returns-then-is_mark
returns-then-is_mark c = sym (chosen _ _ _ (sym c.is_mark.ensures ∙ c.if-is_mark.true))

pub returns-then-is_mark-2 : goal.returns-then-is_mark-2
returns-then-is_mark-2 c = sym (otherwise _ _ _ _ (sym c.is_mark.ensures ∙ c.if-is_mark.false) (chosen _ _ _ (sym c.is_mark-else-is_mark.ensures ∙ c.if-is_mark-2.true)))

pub returns-else-is_mark-2 : goal.returns-else-is_mark-2
returns-else-is_mark-2 c = sym (otherwise _ _ _ _ (sym c.is_mark.ensures ∙ c.if-is_mark.false) (otherwise _ _ _ _ (sym c.is_mark-else-is_mark.ensures ∙ c.if-is_mark-2.false) refl))
