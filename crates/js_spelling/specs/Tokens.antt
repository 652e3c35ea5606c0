-- Which tokens may be written, and which may stand beside one another.
use Rattle.std.specs.Prelude.{◌≡◌, ℕ, ◌<◌, Bool, true, false, not, ◌&&◌, ◌||◌, List, [], ◌∷◌, length, Some}
use Rattle.std.specs.Str.{IsUtf8}
use Rattle.js_text.specs.Character.{is_gap}
use Rattle.js_text.specs.declared.punctuator.Punctuator.{Punctuator}
use Rattle.js_text.specs.declared.punctuator.Punctuator.TheVariants as P
use Rattle.js_text.specs.Token.{Kind, Word, EscapedWord, Numeral, BigInt, StringLiteral, NoSubstitutionTemplate, TemplateHead, TemplateMiddle, TemplateTail, RegularExpression, End, Token, spelling}
use Rattle.js_text.specs.Token as T
use Rattle.js_text.specs.Lex.{token_of}
use Rattle.js_reading.specs.Reads.{goal_of}
use Rattle.js_spelling.specs.Written.{Written, letters, first_is, is_number}

-- ---- a token

-- names are written without escapes, and the end of a text isn't written
abbrev pub is_written : Kind → Bool
is_written (EscapedWord w) = false
is_written End = false
is_written kind = true

-- a kind whose spelling is, by itself, a token of that kind
pub record IsToken (kind : Kind) : Type 0 where
  pub written : is_written kind ≡ true
  pub utf8 : IsUtf8 (spelling kind)
  pub no_gap : first_is is_gap (letters kind) ≡ false
  pub some : 0 < length (letters kind)
  pub alone : token_of (goal_of kind) (letters kind) ≡ Some (kind, length (letters kind))

abbrev pub AreTokens : List Written → Type 0
AreTokens [] = Unit {0}
AreTokens (token ∷ tokens) = IsToken token.kind × AreTokens tokens

-- ---- neighbours

-- an expression may begin with it
abbrev pub begins_operand : Kind → Bool
begins_operand (T.Punctuator P.OpenParenthesis) = true
begins_operand (T.Punctuator P.OpenBracket) = true
begins_operand (T.Punctuator P.OpenBrace) = true
begins_operand (T.Punctuator P.Increment) = true
begins_operand (T.Punctuator P.Decrement) = true
begins_operand (T.Punctuator P.Plus) = true
begins_operand (T.Punctuator P.Minus) = true
begins_operand (T.Punctuator P.Tilde) = true
begins_operand (T.Punctuator P.Exclamation) = true
begins_operand (T.Punctuator p) = false
begins_operand (TemplateMiddle w) = false
begins_operand (TemplateTail w) = false
begins_operand End = false
begins_operand kind = true

abbrev pub is_name : Kind → Bool
is_name (Word w) = true
is_name (EscapedWord w) = true
is_name kind = false

-- no longer punctuator begins with it
abbrev pub is_longest : Punctuator → Bool
is_longest P.OpenParenthesis = true
is_longest P.CloseParenthesis = true
is_longest P.OpenBracket = true
is_longest P.CloseBracket = true
is_longest P.OpenBrace = true
is_longest P.CloseBrace = true
is_longest P.Semicolon = true
is_longest P.Comma = true
is_longest P.Colon = true
is_longest P.Tilde = true
is_longest P.Increment = true
is_longest P.Decrement = true
is_longest P.Arrow = true
is_longest p = false

-- which tokens stand beside one another: after a punctuator with which a longer one might begin an operand does, after `.` a name,
-- and after `?.` no number: `?.5` is `?` and `.5`
abbrev pub may_follow : Kind → Kind → Bool
may_follow (T.Punctuator P.Dot) next = is_name next
may_follow (T.Punctuator P.OptionalChain) next = not (is_number next)
may_follow (T.Punctuator p) next = is_longest p || begins_operand next
may_follow kind next = true

abbrev pub Neighbours : Written → List Written → Type 0
Neighbours token [] = Unit {0}
Neighbours token (next ∷ tokens) = (may_follow token.kind next.kind ≡ true) × Neighbours next tokens

abbrev pub AreNeighbours : List Written → Type 0
AreNeighbours [] = Unit {0}
AreNeighbours (token ∷ tokens) = Neighbours token tokens

-- the same of the tokens of a text
abbrev pub Beside : Token → List Token → Type 0
Beside token [] = Unit {0}
Beside token (next ∷ tokens) = (may_follow token.kind next.kind ≡ true) × Beside next tokens

abbrev pub StandBeside : List Token → Type 0
StandBeside [] = Unit {0}
StandBeside (token ∷ tokens) = Beside token tokens

-- ---- tokens of a text that were written

-- the tokens of a text are those that were written, and its end; a line ends before a token where it was ended
abbrev pub Follow : Bool → List Written → List Token → Type 0
Follow line [] (end ∷ []) = (end.kind ≡ End) × (end.line_terminator_before ≡ line)
Follow line (written ∷ more) (token ∷ tokens) = (token.kind ≡ written.kind) × (token.line_terminator_before ≡ line) × Follow written.ends_line more tokens
Follow line more tokens = ⊥
