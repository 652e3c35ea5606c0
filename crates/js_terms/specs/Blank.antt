-- White space and line terminators (ECMA-262, 12.2 and 12.3).
use Rattle.std.specs.Prelude.{ℕ, ◌==◌, Bool, ◌||◌}
use Rattle.std.specs.Int.{is_in_range}

-- white space (12.2): TAB, VT, FF, ZWNBSP, and the characters of the category Space_Separator
abbrev pub is_white_space : ℕ → Bool
is_white_space c = (c == 0x09) || (c == 0x0B) || (c == 0x0C) || (c == 0x20) || (c == 0xA0) || (c == 0xFEFF)
    || (c == 0x1680) || is_in_range 0x2000 0x200A c || (c == 0x202F) || (c == 0x205F) || (c == 0x3000)

-- line terminators (12.3): LF, CR, LINE SEPARATOR, PARAGRAPH SEPARATOR
abbrev pub is_line_terminator : ℕ → Bool
is_line_terminator c = (c == 0x0A) || (c == 0x0D) || (c == 0x2028) || (c == 0x2029)

-- either of them
unfoldable pub is_gap : ℕ → Bool
is_gap c = is_white_space c || is_line_terminator c
