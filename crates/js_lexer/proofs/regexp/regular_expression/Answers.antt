-- The regular expression that was moved over.
use Rattle.std.proofs.Common.{ℕ, List, drop, Option, None, false, sym, ap, ◌∙◌, arith}
use Rattle.js_text.specs.Gap.{with_found}
use Rattle.js_text.specs.Lex.{flags_rest}
use Rattle.js_text.specs.RegularExpression.{body_rest}
use Rattle.js_text.specs.Token.{RegularExpression}
use Rattle.js_lexer.proofs.Literals.{flags-found}
use Rattle.js_lexer.proofs.Passing.{token-to}
use Rattle.js_lexer.proofs.regexp.regular_expression.Goals as goal

pub returns : goal.returns
returns c =
    token-to RegularExpression 0x2F c.args.cursor.now c.again-start.result c.advance.new.cursor c.skip.new.cursor c.between-2.result.now
    (with_found (body_rest false false (drop 1 c.args.cursor.now.after)) flags_rest None) c.requires c.again-start.ensures c.advance.ensures.rest c.advance.ensures.text
    (ap (λ (xs : List ℕ). with_found (body_rest false false xs) flags_rest None) (sym c.advance.ensures.rest)
    ∙ ap (λ (found : Option (List ℕ)). with_found found flags_rest None) c.if-not-skip_body.ensures.rest
    ∙ flags-found c.skip_body.new.cursor c.again-flags.result c.skip.new.cursor _ c.again-flags.ensures c.skip.ensures.rest c.between.ensures.characters
    (sym c.are_flags.ensures ∙ c.if-not-are_flags.false))
    (c.skip.ensures.text ∙ c.skip_body.ensures.text) (omega (arith, c.skip.ensures.onward, c.skip_body.ensures.onward)) c.between-2.ensures.bytes
