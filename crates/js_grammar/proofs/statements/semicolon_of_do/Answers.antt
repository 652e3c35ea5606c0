use Rattle.std.proofs.Common.{refl, sym, ◌∙◌}
use Rattle.js_grammar.proofs.Choosing.{chosen, otherwise}
use Rattle.js_grammar.proofs.statements.semicolon_of_do.Goals as goal

pub returns-then-is_mark : goal.returns-then-is_mark
returns-then-is_mark c = sym (chosen _ _ _ (sym c.is_mark.ensures ∙ c.if-is_mark.true))

pub returns-else-is_mark : goal.returns-else-is_mark
returns-else-is_mark c = sym (otherwise _ _ _ _ (sym c.is_mark.ensures ∙ c.if-is_mark.false) refl)
