-- The part that was moved over.
use Rattle.std.proofs.Common.{zero, true, false, drop, Some, sym, ap, ◌∙◌}
use Rattle.js_text.specs.Lex.{template_kind}
use Rattle.js_text.specs.Units.{template_rest}
use Rattle.js_lexer.proofs.Passing.{token-by}
use Rattle.js_lexer.proofs.literal.template.Goals as goal

pub returns-then-last : goal.returns-then-last
returns-then-last c =
    token-by template_kind true 0x60 c.args.cursor.now c.again-start.result c.advance.new.cursor c.skip_template.new.cursor c.between-spelling.result.now
    (template_rest zero (drop 1 c.args.cursor.now.after)) c.requires c.again-start.ensures c.advance.ensures.rest c.advance.ensures.text
    (ap (template_rest zero) (sym c.advance.ensures.rest) ∙ c.in_ok-last.ensures.rest ∙ ap (λ b. Some (b, c.skip_template.new.cursor.after)) c.if-last.true)
    c.skip_template.ensures.text c.skip_template.ensures.onward c.between-spelling.ensures.bytes

pub returns-else-last : goal.returns-else-last
returns-else-last c =
    token-by template_kind false 0x60 c.args.cursor.now c.again-start.result c.advance.new.cursor c.skip_template.new.cursor c.between-spelling.result.now
    (template_rest zero (drop 1 c.args.cursor.now.after)) c.requires c.again-start.ensures c.advance.ensures.rest c.advance.ensures.text
    (ap (template_rest zero) (sym c.advance.ensures.rest) ∙ c.in_ok-last.ensures.rest ∙ ap (λ b. Some (b, c.skip_template.new.cursor.after)) c.if-last.false)
    c.skip_template.ensures.text c.skip_template.ensures.onward c.between-spelling.ensures.bytes
