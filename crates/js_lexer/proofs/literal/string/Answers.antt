-- The string that was moved over.
use Rattle.std.proofs.Common.{zero, drop, sym, ap, ◌∙◌}
use Rattle.js_text.specs.Token.{StringLiteral}
use Rattle.js_text.specs.Units.{string_rest}
use Rattle.js_lexer.proofs.Passing.{token-to}
use Rattle.js_lexer.proofs.literal.string.Goals as goal

pub returns : goal.returns
returns c =
    token-to StringLiteral c.args.quote c.args.cursor.now c.again-start.result c.advance.new.cursor c.skip_string.new.cursor c.between.result.now
    (string_rest c.args.quote zero (drop 1 c.args.cursor.now.after)) c.requires c.again-start.ensures c.advance.ensures.rest c.advance.ensures.text
    (ap (string_rest c.args.quote zero) (sym c.advance.ensures.rest) ∙ c.if-not-skip_string.ensures.rest) c.skip_string.ensures.text c.skip_string.ensures.onward c.between.ensures.bytes
