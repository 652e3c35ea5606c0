-- String and template literals (ECMA-262, 12.9.4 and 12.9.6): where they end, and their 16-bit units.
use Rattle.std.specs.Prelude.{ℕ, zero, suc, ◌-◌, ◌==◌, Bool, true, false, ◌&&◌, ◌||◌, List, [], ◌∷◌, ◌++◌, length, take, drop, Option, Some, None, if◌then◌else◌}
use Rattle.std.specs.Char.Escape.{encode_utf16}
use Rattle.std.specs.Str.{chars}
use Rattle.js_text.specs.Position.{begins_with_line_feed}
use Rattle.js_text.specs.Character.{begins_with_character}
use Rattle.js_text.specs.Escape.{escape}
use Rattle.js_text.specs.Gap.{with_found}

-- what follows a string literal, from after its opening quote, and after this many characters of an escape; none where it
-- is not closed: LF and CR end it nowhere, LINE SEPARATOR and PARAGRAPH SEPARATOR may stand in it
abbrev pub string_rest : ℕ → ℕ → List ℕ → Option (List ℕ)
string_rest quote n [] = None
string_rest quote (suc n) (c ∷ cs) = string_rest quote n cs
string_rest quote zero (c ∷ cs) =
    if c == quote then Some cs
    else (if (c == 0x0A) || (c == 0x0D) then None
    else (if c == 0x5C then with_found (escape cs) (λ found. string_rest quote (length cs - length found.1) cs) None
    else string_rest quote zero cs))

-- how a part of a template ends: by its closing backquote, or by `${`; and what follows that
abbrev pub template_rest : ℕ → List ℕ → Option (Bool × List ℕ)
template_rest n [] = None
template_rest (suc n) (c ∷ cs) = template_rest n cs
template_rest zero (c ∷ cs) =
    if c == 0x60 then Some (true, cs)
    else (if (c == 0x24) && begins_with_character 0x7B cs then Some (false, drop 1 cs)
    else (if c == 0x5C then with_found (escape cs) (λ found. template_rest (length cs - length found.1) cs) None
    else template_rest zero cs))

-- the units of what an escape stands for
abbrev pub escape_units : Option ℕ → List ℕ
escape_units None = []
escape_units (Some c) = encode_utf16 c

-- SV of a string's characters, and TV of a template's, after this many characters of an escape or of a CR LF. In a template
-- CR LF and CR mean LF; in a string neither stands outside an escape
abbrev pub value_units : ℕ → List ℕ → List ℕ
value_units n [] = []
value_units (suc n) (c ∷ cs) = value_units n cs
value_units zero (c ∷ cs) =
    if c == 0x5C then with_found (escape cs) (λ found. escape_units found.0 ++ value_units (length cs - length found.1) cs) []
    else (if c == 0x0D then 0x0A ∷ value_units (if begins_with_line_feed cs then 1 else 0) cs
    else encode_utf16 c ++ value_units zero cs)

-- the characters after the first, but for so many at the end
abbrev pub inner : ℕ → List ℕ → List ℕ
inner closing [] = []
inner closing (opening ∷ cs) = take (length cs - closing) cs

-- the units of a string literal that is spelled by these bytes (12.9.4.2)
abbrev pub units_of : List ℕ → List ℕ
units_of spelling = value_units zero (inner 1 (chars spelling))

-- the units of a part of a template that is spelled by these bytes (12.9.6.1): it ends with a backquote, or with `${`
abbrev pub ends_with_brace : List ℕ → Bool
ends_with_brace [] = false
ends_with_brace (c ∷ []) = c == 0x7B
ends_with_brace (c ∷ d ∷ cs) = ends_with_brace (d ∷ cs)

abbrev pub template_units : List ℕ → List ℕ
template_units spelling = value_units zero (inner (if ends_with_brace (chars spelling) then 2 else 1) (chars spelling))
