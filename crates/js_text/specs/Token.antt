-- Tokens (ECMA-262, 12).
use Rattle.std.specs.Prelude.{ℕ, Bool, List, []}
use Rattle.js_terms.specs.declared.place.Loc.{Loc}
use Rattle.js_text.specs.declared.punctuator.Punctuator as P
use Rattle.js_text.specs.Punctuator.{spelling_of}

-- what a token is, with the bytes of its spelling
pub data Kind : Type 0 where
  -- an identifier's name without escapes, and one with an escape (12.7)
  Word : List ℕ → Kind
  EscapedWord : List ℕ → Kind
  -- a number, and one that ends with `n` (12.9.3)
  Numeral : List ℕ → Kind
  BigInt : List ℕ → Kind
  StringLiteral : List ℕ → Kind
  -- the parts of a template (12.9.6)
  NoSubstitutionTemplate : List ℕ → Kind
  TemplateHead : List ℕ → Kind
  TemplateMiddle : List ℕ → Kind
  TemplateTail : List ℕ → Kind
  RegularExpression : List ℕ → Kind
  Punctuator : P.Punctuator → Kind
  -- the end of the text
  End : Kind

-- the bytes of a token's spelling
abbrev pub spelling : Kind → List ℕ
spelling (Word bytes) = bytes
spelling (EscapedWord bytes) = bytes
spelling (Numeral bytes) = bytes
spelling (BigInt bytes) = bytes
spelling (StringLiteral bytes) = bytes
spelling (NoSubstitutionTemplate bytes) = bytes
spelling (TemplateHead bytes) = bytes
spelling (TemplateMiddle bytes) = bytes
spelling (TemplateTail bytes) = bytes
spelling (RegularExpression bytes) = bytes
spelling (Punctuator p) = spelling_of p
spelling End = []

-- a part of a text: how many bytes stand before its start, and before its end
pub record Span : Type 0 where
  pub start : ℕ
  pub end : ℕ

-- a token, where it stands, and what stands before it
pub record Token : Type 0 where
  pub kind : Kind
  pub span : Span
  pub loc : Loc
  -- a line terminator stands between the token before and this one
  pub line_terminator_before : Bool
  -- from the start of the first comment between the two to the end of the last;
  -- where there is none, both are the start of this token
  pub comments : Span
