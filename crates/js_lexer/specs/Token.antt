-- The code's tokens, as those of the definition.
use Rattle.std.specs.Prelude.{◌≡◌, ℕ, Option, None, Some}
use Rattle.js_lexer.specs.declared.token.TokenKind.{TokenKind}
use Rattle.js_lexer.specs.declared.token.TokenKind.TheVariants as token_kind
use Rattle.js_lexer.specs.declared.token.Token as code
use Rattle.js_text.specs.Place.{Place}
use Rattle.js_text.specs.Token as T
use Rattle.js_text.specs.Lex.{moved}

abbrev pub kind_of : TokenKind → T.Kind
kind_of (token_kind.Word text) = T.Word text.now
kind_of (token_kind.EscapedWord text) = T.EscapedWord text.now
kind_of (token_kind.Numeral text) = T.Numeral text.now
kind_of (token_kind.BigInt text) = T.BigInt text.now
kind_of (token_kind.NoSubstitutionTemplate text) = T.NoSubstitutionTemplate text.now
kind_of (token_kind.TemplateHead text) = T.TemplateHead text.now
kind_of (token_kind.TemplateMiddle text) = T.TemplateMiddle text.now
kind_of (token_kind.TemplateTail text) = T.TemplateTail text.now
kind_of (token_kind.RegularExpression text) = T.RegularExpression text.now
kind_of (token_kind.StringLiteral text) = T.StringLiteral text.now
kind_of (token_kind.Punctuator punctuator) = T.Punctuator punctuator
kind_of token_kind.End = T.End

abbrev pub plain_token : code.Token → T.Token
plain_token token = record {
  kind = kind_of token.kind;
  span = record { start = token.start; end = token.end };
  loc = token.loc;
  line_terminator_before = token.line_terminator_before;
  comments = record { start = token.comments.start; end = token.comments.end };
}

-- the kind answered is the one that stands there, and the place has moved over it; none where none stands there
abbrev pub KindIs : Option TokenKind → Option (T.Kind × ℕ) → Place → Place → Type 0
KindIs None found before after = found ≡ None
KindIs (Some kind) found before after = (count : ℕ) × (found ≡ Some (kind_of kind, count)) × (after ≡ moved count before)
