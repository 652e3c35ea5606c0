-- The positions at all offsets of a text, for private clauses.
use Rattle.std.specs.Prelude.{◌≡◌, ℕ, nat_lt, if◌then◌else◌, List, [], ◌∷◌, ◌++◌}
use Rattle.js_text.specs.Position.{position_of}
use Rattle.js_terms.specs.declared.place.Pos.{Pos}

-- one for each unit of a character
abbrev pub copies : ℕ → Pos → List Pos
copies c position = if nat_lt c 0x1_0000 then position ∷ [] else position ∷ position ∷ []

-- those from a place on, up to and with the end's
abbrev pub table_from : List ℕ → List ℕ → List Pos
table_from before [] = position_of (record { before = before; after = [] }) ∷ []
table_from before (c ∷ after) =
    copies c (position_of (record { before = before; after = c ∷ after })) ++ table_from (before ++ c ∷ []) after

abbrev pub table : List ℕ → List Pos
table cs = table_from [] cs

-- the table of some text
abbrev pub IsTable : List Pos → Type 0
IsTable positions = (cs : List ℕ) × (positions ≡ table cs)
