-- The escapes of identifiers, strings and templates (ECMA-262, 12.7, 12.9.4, 12.9.6), from after the backslash.
use Rattle.std.specs.Prelude.{ℕ, ◌+◌, ◌*◌, ◌==◌, nat_le, not, ◌&&◌, List, [], ◌∷◌, drop, Option, Some, None, if◌then◌else◌}
use Rattle.std.specs.Char as char
use Rattle.js_text.specs.Position.{is_line_terminator, begins_with_line_feed}
use Rattle.js_text.specs.Character.{is_digit, begins_with_digit, begins_with_character}

-- the number that the hexadecimal digit here says
abbrev pub hex_digit : List ℕ → Option ℕ
hex_digit [] = None
hex_digit (c ∷ cs) = if char.is_digit c 16 then Some (char.digit_value c) else None

-- two numbers as one, the high one counting this many times
abbrev pub joined : ℕ → Option ℕ → Option ℕ → Option ℕ
joined times (Some high) (Some low) = Some (high * times + low)
joined times high low = None

-- the number that two hexadecimal digits here say, and four
abbrev pub two_digits : List ℕ → Option ℕ
two_digits cs = joined 16 (hex_digit cs) (hex_digit (drop 1 cs))

abbrev pub four_digits : List ℕ → Option ℕ
four_digits cs = joined 256 (two_digits cs) (two_digits (drop 2 cs))

-- a number and what follows its digits
abbrev pub before : List ℕ → Option ℕ → Option (ℕ × List ℕ)
before rest None = None
before rest (Some value) = Some (value, rest)

-- the code point that the digits up to a `}` say with those before, and what follows that; at most 10FFFF
abbrev pub braced_digits : ℕ → List ℕ → Option (ℕ × List ℕ)
braced_digits value [] = None
braced_digits value (c ∷ cs) =
    if c == 0x7D then Some (value, cs)
    else (if char.is_digit c 16 && nat_le (value * 16 + char.digit_value c) 0x10FFFF
    then braced_digits (value * 16 + char.digit_value c) cs else None)

-- the same from after the `{`: there is a digit
abbrev pub code_point : List ℕ → Option (ℕ × List ℕ)
code_point cs = if begins_with_character 0x7D cs then None else braced_digits 0 cs

-- UnicodeEscapeSequence, from after its `u`
abbrev pub unicode_escape : List ℕ → Option (ℕ × List ℕ)
unicode_escape cs = if begins_with_character 0x7B cs then code_point (drop 1 cs) else before (drop 4 cs) (four_digits cs)

-- HexEscapeSequence, from after its `x`
abbrev pub hex_escape : List ℕ → Option (ℕ × List ℕ)
hex_escape cs = before (drop 2 cs) (two_digits cs)

-- SingleEscapeCharacter and NonEscapeCharacter: which character this one stands for
abbrev pub escaped_character : ℕ → ℕ
escaped_character c =
    if c == 0x62 then 0x08
    else (if c == 0x74 then 0x09
    else (if c == 0x6E then 0x0A
    else (if c == 0x76 then 0x0B
    else (if c == 0x66 then 0x0C
    else (if c == 0x72 then 0x0D else c)))))

-- what an escape stands for, a code point or, for LineContinuation, nothing, and what follows it
abbrev pub says : Option (ℕ × List ℕ) → Option (Option ℕ × List ℕ)
says None = None
says (Some found) = Some (Some found.0, found.1)

-- a digit stands for something where it is a `0` before no other digit
abbrev pub digit_escape : ℕ → List ℕ → Option (Option ℕ × List ℕ)
digit_escape c cs = if (c == 0x30) && not (begins_with_digit cs) then Some (Some 0, cs) else None

-- an escape of a string or a template
abbrev pub escape : List ℕ → Option (Option ℕ × List ℕ)
escape [] = None
escape (c ∷ cs) =
    if c == 0x78 then says (hex_escape cs)
    else (if c == 0x75 then says (unicode_escape cs)
    else (if c == 0x0D then Some (None, if begins_with_line_feed cs then drop 1 cs else cs)
    else (if is_line_terminator c then Some (None, cs)
    else (if is_digit c then digit_escape c cs
    else Some (Some (escaped_character c), cs)))))

-- an escape of an identifier (12.7)
abbrev pub identifier_escape : List ℕ → Option (ℕ × List ℕ)
identifier_escape [] = None
identifier_escape (c ∷ cs) = if c == 0x75 then unicode_escape cs else None
