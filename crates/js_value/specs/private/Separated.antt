-- Digits with separators between them.
use Rattle.std.specs.Prelude.{ℕ, ◌==◌, Bool, ◌||◌}
use Rattle.js_text.specs.Character.{is_digit}

abbrev pub is_separator : ℕ → Bool
is_separator c = c == 0x5F

abbrev pub is_spaced : ℕ → Bool
is_spaced c = is_digit c || (c == 0x5F)
