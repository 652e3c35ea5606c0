-- Pieces of the reports.
use Rattle.std.specs.Prelude.{ℕ, cond, ◌||◌, nat_eq, List, [], ◌∷◌, ◌++◌, map, Option, Some, None}
use Rattle.cov_object.specs.declared.location.Position.{Position}
use Rattle.cov_object.specs.declared.location.Location.{Location}

-- a text on a line of its own, ended by LF
abbrev pub line : List ℕ → List ℕ
line text = text ++ 0x0A ∷ []

-- LF and CR print as spaces
abbrev pub printed_byte : ℕ → ℕ
printed_byte byte = cond (nat_eq byte 0x0A || nat_eq byte 0x0D) 0x20 byte

-- a path or a name, as it prints
abbrev pub printed : List ℕ → List ℕ
printed text = map printed_byte text

-- the line of a place: 0 where there is none
abbrev pub line_of : Option Position → ℕ
line_of (Some position) = position.line
line_of None = 0

-- the line on which a part of a file starts
abbrev pub start_line : Location → ℕ
start_line location = line_of location.start
