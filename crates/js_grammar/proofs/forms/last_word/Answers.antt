use Rattle.std.proofs.Common.{refl, sym}
use Rattle.js_grammar.proofs.Choosing.{told, passed}
use Rattle.js_grammar.proofs.forms.last_word.Goals as goal

pub returns-then-eq : goal.returns-then-eq
returns-then-eq c = sym (told _ _ _ (sym c.if-eq.ensures))

pub returns-then-eq-2 : goal.returns-then-eq-2
returns-then-eq-2 c = sym (passed _ _ _ _ (sym c.if-eq.ensures) (told _ _ _ (sym c.if-eq-2.ensures)))

pub returns-then-eq-3 : goal.returns-then-eq-3
returns-then-eq-3 c = sym (passed _ _ _ _ (sym c.if-eq.ensures) (passed _ _ _ _ (sym c.if-eq-2.ensures) (told _ _ _ (sym c.if-eq-3.ensures))))

pub returns-else-eq-3 : goal.returns-else-eq-3
returns-else-eq-3 c = sym (passed _ _ _ _ (sym c.if-eq.ensures) (passed _ _ _ _ (sym c.if-eq-2.ensures) (passed _ _ _ _ (sym c.if-eq-3.ensures) (refl))))
