-- A word from its first character on.
use Rattle.std.proofs.Common.{◌≡◌, ℕ, Some, drop, sym, ap, ◌∙◌, subst}
use Rattle.js_text.specs.Identifier.{after_first, word_of_bytes}
use Rattle.js_text.specs.Lex.{token_to, moved}
use Rattle.js_text.specs.Token.{Kind}
use Rattle.js_lexer.proofs.Passing.{token-to}
use Rattle.js_lexer.proofs.word.word.Goals as goal

pub returns : goal.returns
returns c =
    let p = c.args.cursor.now in
    let q = c.skip_after.new.cursor in
    let found = after_first c.args.first (drop 1 p.after) in
    subst (λ (k : Kind). (x : ℕ) × (token_to word_of_bytes c.args.first (drop 1 p.after) found ≡ Some (k, x)) × (q ≡ moved x p)) (sym c.word_of.ensures)
    (token-to word_of_bytes c.args.first p c.again-start.result c.advance.new.cursor q c.between.result.now found c.requires c.again-start.ensures c.advance.ensures.rest
    c.advance.ensures.text (ap (after_first c.args.first) (sym c.advance.ensures.rest) ∙ c.if-not-skip_after.ensures.rest) c.skip_after.ensures.text
    c.skip_after.ensures.onward c.between.ensures.bytes)
