-- The line and the column of a place in a text.
-- Line terminators: ECMA-262, 12.3. Code units of UTF-16: ECMA-262, 11.1.1.
use Rattle.std.specs.Prelude.{ℕ, ◌+◌, ◌-◌, ◌^◌, ◌==◌, Bool, false, not, ◌&&◌, List, [], ◌∷◌, ◌++◌, if◌then◌else◌, nat_lt, min, sum_by}
pub use Rattle.js_terms.specs.Blank.{is_line_terminator}
use Rattle.js_terms.specs.declared.place.Pos.{Pos}
use Rattle.std.specs.Str.{chars}
use Rattle.js_text.specs.Place.{Place, place_at}

-- these characters begin with LF
abbrev pub begins_with_line_feed : List ℕ → Bool
begins_with_line_feed [] = false
begins_with_line_feed (c ∷ cs) = c == 0x0A

-- a line ends with this character where these follow: CR and LF end one line, after the LF
abbrev pub ends_line : ℕ → List ℕ → Bool
ends_line c rest = is_line_terminator c && not ((c == 0x0D) && begins_with_line_feed rest)

-- how many lines end among the characters before a place
abbrev pub lines_ended : List ℕ → List ℕ → ℕ
lines_ended [] after = 0
lines_ended (c ∷ before) after = (if ends_line c (before ++ after) then 1 else 0) + lines_ended before after

-- the characters from the start of the line up to a place
abbrev pub line_so_far : List ℕ → List ℕ → List ℕ
line_so_far [] after = []
line_so_far (c ∷ before) after = if lines_ended (c ∷ before) after == 0 then c ∷ before else line_so_far before after

-- how many code units of UTF-16 a character takes
abbrev pub utf16_units : ℕ → ℕ
utf16_units c = if nat_lt c 0x1_0000 then 1 else 2

-- a number above 2^32 - 1 stands as that
abbrev pub saturated : ℕ → ℕ
saturated n = min n (2 ^ 32 - 1)

-- the position of a place
abbrev pub position_of : Place → Pos
position_of place = record {
  line = saturated (1 + lines_ended place.before place.after);
  column = saturated (sum_by utf16_units (line_so_far place.before place.after));
}

-- the position at this many bytes of a text
abbrev pub position : List ℕ → ℕ → Pos
position text at = position_of (place_at (chars text) at)
