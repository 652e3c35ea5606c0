-- Where two tokens meet, by the characters that do: when a space stands between them.
use Rattle.std.specs.Prelude.{ℕ, ◌==◌, Bool, false, ◌&&◌, ◌||◌, List, [], ◌∷◌, Option, Some, None}
use Rattle.js_text.specs.Character.{continues_identifier}

-- the first and the last of these characters
abbrev pub first_of : List ℕ → Option ℕ
first_of [] = None
first_of (c ∷ cs) = Some c

abbrev pub last_of : List ℕ → Option ℕ
last_of [] = None
last_of (c ∷ []) = Some c
last_of (c ∷ d ∷ cs) = last_of (d ∷ cs)

abbrev pub continues : Option ℕ → Bool
continues None = false
continues (Some c) = continues_identifier c

abbrev pub is : ℕ → Option ℕ → Bool
is x None = false
is x (Some c) = c == x

-- a space stands between what ends with one character and what begins with another
abbrev pub parts : Option ℕ → Bool → Bool → Option ℕ → Bool
parts a number expression b =
    (continues a && continues b) || ((number || expression) && continues b) || (number && is 0x2E b)
    || (is 0x2B a && is 0x2B b) || (is 0x2D a && is 0x2D b) || (is 0x2F a && is 0x2F b) || (is 0x3C a && is 0x21 b)
