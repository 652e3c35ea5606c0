-- The token is the one that begins with this character.
use Rattle.std.proofs.Common.{◌≡◌, ℕ, Option, sym, subst, ◌∙◌}
use Rattle.js_text.specs.Place.{Place}
use Rattle.js_text.specs.Token.{Kind}
use Rattle.js_lexer.specs.declared.token.TokenKind.{TokenKind}
use Rattle.js_lexer.specs.Token.{KindIs}
use Rattle.js_lexer.proofs.Starts.{token-word, token-number, token-string, token-template, token-slash, token-punctuator}
use Rattle.js_lexer.proofs.kind.kind_from.Goals as goal

same-kind : (result : Option TokenKind) (found other : Option (Kind × ℕ)) (p q : Place) → found ≡ other → KindIs result found p q → KindIs result other p q
same-kind result found other p q same is = subst (λ (o : Option (Kind × ℕ)). KindIs result o p q) same is

pub returns-then-begins_word : goal.returns-then-begins_word
returns-then-begins_word c =
    same-kind c.word.result _ _ c.args.cursor.now c.word.new.cursor (token-word c.args.goal c.args.cursor.now.after c.args.first c.requires (sym c.begins_word.ensures ∙ c.if-begins_word.true)) c.word.ensures

pub returns-then-begins_number : goal.returns-then-begins_number
returns-then-begins_number c =
    same-kind c.number.result _ _ c.args.cursor.now c.number.new.cursor (token-number c.args.goal c.args.cursor.now.after c.args.first c.requires (sym c.begins_word.ensures ∙ c.if-begins_word.false) (sym c.begins_number.ensures ∙ c.if-begins_number.true)) c.number.ensures

pub returns-then-is_quote : goal.returns-then-is_quote
returns-then-is_quote c =
    same-kind c.string.result _ _ c.args.cursor.now c.string.new.cursor (token-string c.args.goal c.args.cursor.now.after c.args.first c.requires (sym c.begins_word.ensures ∙ c.if-begins_word.false) (sym c.begins_number.ensures ∙ c.if-begins_number.false) (sym c.is_quote.ensures ∙ c.if-is_quote.true)) c.string.ensures

pub returns-then-first-eq96 : goal.returns-then-first-eq96
returns-then-first-eq96 c =
    same-kind c.template.result _ _ c.args.cursor.now c.template.new.cursor (token-template c.args.goal c.args.cursor.now.after c.args.first c.requires (sym c.begins_word.ensures ∙ c.if-begins_word.false) (sym c.begins_number.ensures ∙ c.if-begins_number.false) (sym c.is_quote.ensures ∙ c.if-is_quote.false) c.if-first-eq96.true) c.template.ensures

pub returns-then-first-eq47 : goal.returns-then-first-eq47
returns-then-first-eq47 c =
    same-kind c.slash.result _ _ c.args.cursor.now c.slash.new.cursor (token-slash c.args.goal c.args.cursor.now.after c.args.first c.requires (sym c.begins_word.ensures ∙ c.if-begins_word.false) (sym c.begins_number.ensures ∙ c.if-begins_number.false) (sym c.is_quote.ensures ∙ c.if-is_quote.false) c.if-first-eq96.false c.if-first-eq47.true) c.slash.ensures

pub returns-else-first-eq47 : goal.returns-else-first-eq47
returns-else-first-eq47 c =
    same-kind c.punctuator.result _ _ c.args.cursor.now c.punctuator.new.cursor (token-punctuator c.args.goal c.args.cursor.now.after c.args.first c.requires (sym c.begins_word.ensures ∙ c.if-begins_word.false) (sym c.begins_number.ensures ∙ c.if-begins_number.false) (sym c.is_quote.ensures ∙ c.if-is_quote.false) c.if-first-eq96.false c.if-first-eq47.false) c.punctuator.ensures
