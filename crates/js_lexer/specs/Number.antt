-- The bases of numbers, and what of them the code asks of one character.
use Rattle.std.specs.Prelude.{ℕ, ◌==◌, Bool, false, ◌&&◌, List, [], ◌∷◌, Option, Some, None}
use Rattle.js_lexer.specs.declared.number.Base.{Base}
use Rattle.js_lexer.specs.declared.number.Base.TheVariants as base
use Rattle.js_text.specs.Number.{base_of, begins_with_digit_of}

abbrev pub code_of : Base → ℕ
code_of base.Binary = 2
code_of base.Octal = 8
code_of base.Decimal = 10
code_of base.Hexadecimal = 16

-- the base that the character here says after a `0`
abbrev pub base_at : Option ℕ → Option ℕ
base_at None = None
base_at (Some c) = base_of c

-- a `_` stands here, and a digit after it
abbrev pub at_separator : ℕ → List ℕ → Bool
at_separator base [] = false
at_separator base (c ∷ cs) = (c == 0x5F) && begins_with_digit_of base cs
