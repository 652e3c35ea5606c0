-- The punctuators of ECMA-262 (12.8).
use Rattle.std.specs.Prelude.{ℕ, ◌==◌, Bool, true, false, not, ◌&&◌, List, [], ◌∷◌, length, drop, codes, Option, Some, None, if◌then◌else◌}
use Rattle.js_text.specs.declared.punctuator.Punctuator.{Punctuator}
use Rattle.js_text.specs.declared.punctuator.Punctuator.TheVariants as mark
use Rattle.js_text.specs.declared.goal.Goal.{Goal}
use Rattle.js_text.specs.declared.goal.Goal.TheVariants as goal
use Rattle.js_text.specs.Character.{begins_with_digit}

-- how each is written
abbrev pub spelling_of : Punctuator → List ℕ
spelling_of mark.UnsignedShiftRightAssign = codes ">>>="
spelling_of mark.Ellipsis = codes "..."
spelling_of mark.StrictEqual = codes "==="
spelling_of mark.StrictNotEqual = codes "!=="
spelling_of mark.ExponentAssign = codes "**="
spelling_of mark.ShiftLeftAssign = codes "<<="
spelling_of mark.ShiftRightAssign = codes ">>="
spelling_of mark.UnsignedShiftRight = codes ">>>"
spelling_of mark.LogicalAndAssign = codes "&&="
spelling_of mark.LogicalOrAssign = codes "||="
spelling_of mark.CoalesceAssign = codes "??="
spelling_of mark.Arrow = codes "=>"
spelling_of mark.Equal = codes "=="
spelling_of mark.NotEqual = codes "!="
spelling_of mark.LessOrEqual = codes "<="
spelling_of mark.GreaterOrEqual = codes ">="
spelling_of mark.Increment = codes "++"
spelling_of mark.Decrement = codes "--"
spelling_of mark.Exponent = codes "**"
spelling_of mark.ShiftLeft = codes "<<"
spelling_of mark.ShiftRight = codes ">>"
spelling_of mark.LogicalAnd = codes "&&"
spelling_of mark.LogicalOr = codes "||"
spelling_of mark.Coalesce = codes "??"
spelling_of mark.OptionalChain = codes "?."
spelling_of mark.AddAssign = codes "+="
spelling_of mark.SubtractAssign = codes "-="
spelling_of mark.MultiplyAssign = codes "*="
spelling_of mark.DivideAssign = codes "/="
spelling_of mark.RemainderAssign = codes "%="
spelling_of mark.AndAssign = codes "&="
spelling_of mark.OrAssign = codes "|="
spelling_of mark.XorAssign = codes "^="
spelling_of mark.OpenBrace = codes "{"
spelling_of mark.CloseBrace = codes "}"
spelling_of mark.OpenParenthesis = codes "("
spelling_of mark.CloseParenthesis = codes ")"
spelling_of mark.OpenBracket = codes "["
spelling_of mark.CloseBracket = codes "]"
spelling_of mark.Dot = codes "."
spelling_of mark.Semicolon = codes ";"
spelling_of mark.Comma = codes ","
spelling_of mark.LessThan = codes "<"
spelling_of mark.GreaterThan = codes ">"
spelling_of mark.Plus = codes "+"
spelling_of mark.Minus = codes "-"
spelling_of mark.Star = codes "*"
spelling_of mark.Slash = codes "/"
spelling_of mark.Percent = codes "%"
spelling_of mark.Ampersand = codes "&"
spelling_of mark.Bar = codes "|"
spelling_of mark.Caret = codes "^"
spelling_of mark.Exclamation = codes "!"
spelling_of mark.Tilde = codes "~"
spelling_of mark.Question = codes "?"
spelling_of mark.Colon = codes ":"
spelling_of mark.Assign = codes "="

-- all of them, the longer before the shorter
abbrev pub punctuators : List Punctuator
punctuators =
    mark.UnsignedShiftRightAssign ∷ mark.Ellipsis ∷ mark.StrictEqual ∷ mark.StrictNotEqual ∷ mark.ExponentAssign ∷ mark.ShiftLeftAssign ∷
    mark.ShiftRightAssign ∷ mark.UnsignedShiftRight ∷ mark.LogicalAndAssign ∷ mark.LogicalOrAssign ∷ mark.CoalesceAssign ∷ mark.Arrow ∷ mark.Equal ∷
    mark.NotEqual ∷ mark.LessOrEqual ∷ mark.GreaterOrEqual ∷ mark.Increment ∷ mark.Decrement ∷ mark.Exponent ∷ mark.ShiftLeft ∷ mark.ShiftRight ∷
    mark.LogicalAnd ∷ mark.LogicalOr ∷ mark.Coalesce ∷ mark.OptionalChain ∷ mark.AddAssign ∷ mark.SubtractAssign ∷ mark.MultiplyAssign ∷ mark.DivideAssign ∷
    mark.RemainderAssign ∷ mark.AndAssign ∷ mark.OrAssign ∷ mark.XorAssign ∷ mark.OpenBrace ∷ mark.CloseBrace ∷ mark.OpenParenthesis ∷
    mark.CloseParenthesis ∷ mark.OpenBracket ∷ mark.CloseBracket ∷ mark.Dot ∷ mark.Semicolon ∷ mark.Comma ∷ mark.LessThan ∷ mark.GreaterThan ∷ mark.Plus ∷ mark.Minus ∷
    mark.Star ∷ mark.Slash ∷ mark.Percent ∷ mark.Ampersand ∷ mark.Bar ∷ mark.Caret ∷ mark.Exclamation ∷ mark.Tilde ∷ mark.Question ∷ mark.Colon ∷ mark.Assign ∷ []

-- these characters begin with that text
abbrev pub begins_with : List ℕ → List ℕ → Bool
begins_with [] cs = true
begins_with (x ∷ text) [] = false
begins_with (x ∷ text) (c ∷ cs) = (c == x) && begins_with text cs

-- a punctuator may stand before these characters: `?.` before no digit, any other before all
abbrev pub may_stand_before : Punctuator → List ℕ → Bool
may_stand_before mark.OptionalChain cs = not (begins_with_digit cs)
may_stand_before _ cs = true

-- these characters begin with a punctuator
abbrev pub begins_with_punctuator : Punctuator → List ℕ → Bool
begins_with_punctuator p cs = begins_with (spelling_of p) cs && may_stand_before p (drop (length (spelling_of p)) cs)

-- the first of these punctuators that the characters begin with
abbrev pub first_punctuator : List Punctuator → List ℕ → Option Punctuator
first_punctuator [] cs = None
first_punctuator (p ∷ ps) cs = if begins_with_punctuator p cs then Some p else first_punctuator ps cs

-- the longest punctuator that the characters begin with
unfoldable pub longest_punctuator : List ℕ → Option Punctuator
longest_punctuator cs = first_punctuator punctuators cs

-- a punctuator is a token for a goal: `/` and `/=` are for Div alone (12.1)
abbrev pub is_for : Goal → Punctuator → Bool
is_for goal.Div p = true
is_for _ mark.Slash = false
is_for _ mark.DivideAssign = false
is_for _ p = true
