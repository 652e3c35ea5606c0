-- A place in a text: the characters before it, and those that follow.
use Rattle.std.specs.Prelude.{ℕ, ◌-◌, List, [], ◌∷◌, drop, length, if◌then◌else◌, nat_le}
use Rattle.std.specs.Char.{len_utf8}

pub record Place : Type 0 where
  pub before : List ℕ
  pub after : List ℕ

-- of a text's characters, those that end at or before this many bytes of its UTF-8
abbrev pub characters_before : ℕ → List ℕ → List ℕ
characters_before at [] = []
characters_before at (c ∷ cs) = if nat_le (len_utf8 c) at then c ∷ characters_before (at - len_utf8 c) cs else []

-- the place at this many bytes of the text of these characters
abbrev pub place_at : List ℕ → ℕ → Place
place_at cs at = let before = characters_before at cs in record { before = before; after = drop (length before) cs }
