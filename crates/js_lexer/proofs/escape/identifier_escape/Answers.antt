-- What follows the `u`.
use Rattle.std.proofs.Common.{sym, ap, ◌∙◌}
use Rattle.js_text.specs.Escape.{unicode_escape}
use Rattle.js_lexer.proofs.Escapes.{identifier-unicode}
use Rattle.js_lexer.proofs.escape.identifier_escape.Goals as goal

pub returns-in-Some-u-clause-value : goal.returns-in-Some-u-clause-value
returns-in-Some-u-clause-value c =
    identifier-unicode c.args.cursor.now.after c.in-Some-u.field-0 (sym c.peek.ensures ∙ c.in-Some-u.is) c.in-Some-u.field-0-test
    ∙ ap unicode_escape (sym c.advance.ensures.rest) ∙ c.unicode_escape.ensures.value
