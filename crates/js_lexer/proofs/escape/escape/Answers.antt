-- An escape that begins with `u` stands for a code point.
use Rattle.std.proofs.Common.{ℕ, List, Some, sym, ap, ◌∙◌}
use Rattle.js_text.specs.Escape.{says, unicode_escape}
use Rattle.js_lexer.proofs.Escapes.{escape-unicode}
use Rattle.js_lexer.proofs.escape.escape.Goals as goal

pub returns-in-u-clause-value : goal.returns-in-u-clause-value
returns-in-u-clause-value c =
    escape-unicode c.args.cursor.now.after (sym c.peek.ensures ∙ c.in_ok-first.was ∙ ap (λ x. Some x) c.in-u.is)
    ∙ ap (λ (xs : List ℕ). says (unicode_escape xs)) (sym c.advance.ensures.rest)
    ∙ ap says c.unicode_escape.ensures.value
    ∙ c.code_point.ensures.value c.unicode_escape.new.cursor
