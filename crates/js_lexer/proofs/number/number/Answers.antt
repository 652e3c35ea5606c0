-- A number from its first character on, of the kind that was found.
use Rattle.std.proofs.Common.{Bool, true, false, Some, drop, sym, ap, ◌∙◌}
use Rattle.js_text.specs.Number.{number_rest}
use Rattle.js_text.specs.Lex.{number_kind}
use Rattle.js_lexer.proofs.Passing.{token-by}
use Rattle.js_lexer.proofs.number.number.Goals as goal

pub returns-then-big : goal.returns-then-big
returns-then-big c =
    token-by number_kind true c.args.first c.args.cursor.now c.again-start.result c.advance.new.cursor c.skip_number.new.cursor c.between-spelling.result.now
    (number_rest c.args.first (drop 1 c.args.cursor.now.after)) c.requires c.again-start.ensures c.advance.ensures.rest c.advance.ensures.text
    (ap (number_rest c.args.first) (sym c.advance.ensures.rest) ∙ c.in_ok-big.ensures.rest ∙ ap (λ (b : Bool). Some (b, c.skip_number.new.cursor.after)) c.if-big.true)
    c.skip_number.ensures.text c.skip_number.ensures.onward c.between-spelling.ensures.bytes

pub returns-else-big : goal.returns-else-big
returns-else-big c =
    token-by number_kind false c.args.first c.args.cursor.now c.again-start.result c.advance.new.cursor c.skip_number.new.cursor c.between-spelling.result.now
    (number_rest c.args.first (drop 1 c.args.cursor.now.after)) c.requires c.again-start.ensures c.advance.ensures.rest c.advance.ensures.text
    (ap (number_rest c.args.first) (sym c.advance.ensures.rest) ∙ c.in_ok-big.ensures.rest ∙ ap (λ (b : Bool). Some (b, c.skip_number.new.cursor.after)) c.if-big.false)
    c.skip_number.ensures.text c.skip_number.ensures.onward c.between-spelling.ensures.bytes
