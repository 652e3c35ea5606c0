-- A backslash follows, after which no such escape stands.
use Rattle.std.proofs.Common.{drop, sym, ap, ◌∙◌}
use Rattle.js_text.specs.Place.{Place}
use Rattle.js_text.specs.Identifier.{escape_of}
use Rattle.js_lexer.specs.private.Class.{test_of}
use Rattle.js_lexer.proofs.Steps.{this}
use Rattle.js_lexer.proofs.Words.{escaped-first}
use Rattle.js_lexer.proofs.word.skip_escaped.Goals as goal

pub returns-else-skip_escape-clause-rest : goal.returns-else-skip_escape-clause-rest
returns-else-skip_escape-clause-rest c =
    let test = test_of c.args.class in
    escaped-first test c.args.cursor.now.after (sym c.peek.ensures ∙ this c.peek.result 0x5C (sym c.ne.ensures ∙ c.if-ne.false))
    ∙ ap (λ (p : Place). escape_of test (drop 1 p.after)) (sym c.again-end.ensures)
    ∙ ap (escape_of test) (sym c.advance.ensures.rest) ∙ c.if-skip_escape.ensures.rest
