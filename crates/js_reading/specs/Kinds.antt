-- Whether a token is a given one.
use Rattle.std.specs.Prelude.{ℕ, ◌==◌, Bool, true, false, List, is_some}
use Rattle.std.specs.Str.{bytes_eq}
use Rattle.js_text.specs.Token.{Kind, Word, EscapedWord, Numeral, BigInt, StringLiteral, NoSubstitutionTemplate, TemplateHead, TemplateMiddle, TemplateTail, RegularExpression, End}
use Rattle.js_text.specs.Token as T
use Rattle.js_text.specs.Word.{reserved_word}
use Rattle.js_text.specs.declared.punctuator.Punctuator.{Punctuator}
use Rattle.js_text.specs.declared.punctuator.Punctuator.TheVariants as P

-- the number of a punctuator
abbrev pub code_of : Punctuator → ℕ
code_of P.UnsignedShiftRightAssign = 0
code_of P.Ellipsis = 1
code_of P.StrictEqual = 2
code_of P.StrictNotEqual = 3
code_of P.ExponentAssign = 4
code_of P.ShiftLeftAssign = 5
code_of P.ShiftRightAssign = 6
code_of P.UnsignedShiftRight = 7
code_of P.LogicalAndAssign = 8
code_of P.LogicalOrAssign = 9
code_of P.CoalesceAssign = 10
code_of P.Arrow = 11
code_of P.Equal = 12
code_of P.NotEqual = 13
code_of P.LessOrEqual = 14
code_of P.GreaterOrEqual = 15
code_of P.Increment = 16
code_of P.Decrement = 17
code_of P.Exponent = 18
code_of P.ShiftLeft = 19
code_of P.ShiftRight = 20
code_of P.LogicalAnd = 21
code_of P.LogicalOr = 22
code_of P.Coalesce = 23
code_of P.OptionalChain = 24
code_of P.AddAssign = 25
code_of P.SubtractAssign = 26
code_of P.MultiplyAssign = 27
code_of P.DivideAssign = 28
code_of P.RemainderAssign = 29
code_of P.AndAssign = 30
code_of P.OrAssign = 31
code_of P.XorAssign = 32
code_of P.OpenBrace = 33
code_of P.CloseBrace = 34
code_of P.OpenParenthesis = 35
code_of P.CloseParenthesis = 36
code_of P.OpenBracket = 37
code_of P.CloseBracket = 38
code_of P.Dot = 39
code_of P.Semicolon = 40
code_of P.Comma = 41
code_of P.LessThan = 42
code_of P.GreaterThan = 43
code_of P.Plus = 44
code_of P.Minus = 45
code_of P.Star = 46
code_of P.Slash = 47
code_of P.Percent = 48
code_of P.Ampersand = 49
code_of P.Bar = 50
code_of P.Caret = 51
code_of P.Exclamation = 52
code_of P.Tilde = 53
code_of P.Question = 54
code_of P.Colon = 55
code_of P.Assign = 56

-- the token is of that kind, with that spelling
abbrev pub is_kind : Kind → Kind → Bool
is_kind (Word w) (Word v) = bytes_eq v w
is_kind (T.Punctuator p) (T.Punctuator q) = code_of p == code_of q
is_kind (EscapedWord w) (EscapedWord v) = bytes_eq v w
is_kind (Numeral w) (Numeral v) = bytes_eq v w
is_kind (BigInt w) (BigInt v) = bytes_eq v w
is_kind (StringLiteral w) (StringLiteral v) = bytes_eq v w
is_kind (NoSubstitutionTemplate w) (NoSubstitutionTemplate v) = bytes_eq v w
is_kind (TemplateHead w) (TemplateHead v) = bytes_eq v w
is_kind (TemplateMiddle w) (TemplateMiddle v) = bytes_eq v w
is_kind (TemplateTail w) (TemplateTail v) = bytes_eq v w
is_kind (RegularExpression w) (RegularExpression v) = bytes_eq v w
is_kind End End = true
is_kind k j = false

-- a word that can be no name (12.7.2)
unfoldable pub is_keyword : List ℕ → Bool
is_keyword word = is_some (reserved_word word)
