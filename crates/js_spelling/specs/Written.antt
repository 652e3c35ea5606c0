-- Tokens that are written, one after the other, and the text that they make.
use Rattle.std.specs.Prelude.{ℕ, ◌==◌, Bool, true, false, ◌&&◌, ◌||◌, List, [], ◌∷◌, ◌++◌, if◌then◌else◌}
use Rattle.std.specs.Str.{chars}
use Rattle.js_terms.specs.declared.place.Pos.{Pos}
use Rattle.js_text.specs.Character.{continues_identifier}
use Rattle.js_text.specs.Token.{Kind, Numeral, BigInt, RegularExpression, spelling}

-- where a token comes from
pub data Origin : Type 0 where
  -- a statement, a declarator, a function or an expression of the source begins with it, and starts there
  Begins : Pos → Origin
  -- it stands in what is in the source, and nothing of these begins with it
  Within : Origin
  -- it stands in what was inserted
  Inserted : Origin

pub record Written : Type 0 where
  pub kind : Kind
  pub origin : Origin
  -- an LF stands after it
  pub ends_line : Bool

-- ---- where two tokens meet

-- the characters of a token
abbrev pub letters : Kind → List ℕ
letters kind = chars (spelling kind)

-- the first of these characters passes a test, and the last
abbrev pub first_is : (ℕ → Bool) → List ℕ → Bool
first_is test [] = false
first_is test (c ∷ cs) = test c

abbrev pub last_is : (ℕ → Bool) → List ℕ → Bool
last_is test [] = false
last_is test (c ∷ []) = test c
last_is test (c ∷ d ∷ cs) = last_is test (d ∷ cs)

-- the one ends with this character, and the other begins with that
abbrev pub meet : ℕ → ℕ → List ℕ → List ℕ → Bool
meet a b left right = last_is (λ c. c == a) left && first_is (λ c. c == b) right

abbrev pub is_number : Kind → Bool
is_number (Numeral w) = true
is_number (BigInt w) = true
is_number kind = false

abbrev pub is_regular_expression : Kind → Bool
is_regular_expression (RegularExpression w) = true
is_regular_expression kind = false

-- a space stands between two tokens: where characters of identifiers meet; after a number or a regular expression before such a
-- character, and after a number before `.`; between `+` and `+`, `-` and `-`, `/` and `/`, and `<` and `!`
abbrev pub spaced : Kind → Kind → Bool
spaced left right =
    (last_is continues_identifier (letters left) && first_is continues_identifier (letters right))
    || ((is_number left || is_regular_expression left) && first_is continues_identifier (letters right))
    || (is_number left && first_is (λ c. c == 0x2E) (letters right))
    || meet 0x2B 0x2B (letters left) (letters right)
    || meet 0x2D 0x2D (letters left) (letters right)
    || meet 0x2F 0x2F (letters left) (letters right)
    || meet 0x3C 0x21 (letters left) (letters right)

-- ---- the text

-- what stands after a token, before one of this kind
abbrev pub between : Written → Kind → List ℕ
between token next = if token.ends_line then 0x0A ∷ [] else (if spaced token.kind next then 0x20 ∷ [] else [])

-- what stands after the last token
abbrev pub after_last : Written → List ℕ
after_last token = if token.ends_line then 0x0A ∷ [] else []

-- the bytes of the text from a token on
abbrev pub text_from : Written → List Written → List ℕ
text_from token [] = spelling token.kind ++ after_last token
text_from token (next ∷ tokens) = spelling token.kind ++ (between token next.kind ++ text_from next tokens)

abbrev pub text_of : List Written → List ℕ
text_of [] = []
text_of (token ∷ tokens) = text_from token tokens
