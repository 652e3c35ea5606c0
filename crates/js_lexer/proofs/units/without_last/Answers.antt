-- The last character was cut off.
use Rattle.std.proofs.Common.{ℕ, ◌-◌, List, length, take, chars, IsUtf8, subst, sym, ap, ◌∙◌}
use Rattle.js_lexer.proofs.Values.{without_last}
use Rattle.js_lexer.proofs.units.without_last.Goals as goal

pub returns : goal.returns
returns c =
    ap chars c.as_str.ensures
    ∙ without_last c.chars-characters.result.rest.now c.next_back.new.self.rest.now c.next_back.result c.next_back.ensures.steps (λ e. ap (λ s. s.rest.now) e)
    (subst IsUtf8 (sym c.chars-characters.ensures.rest) c.utf8.text) (subst IsUtf8 c.as_str.ensures c.as_str.utf8)
    ∙ ap (λ (bytes : List ℕ). take (length (chars bytes) - 1) (chars bytes)) c.chars-characters.ensures.rest
