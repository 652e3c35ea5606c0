-- Marks whose places ascend.
use Rattle.std.specs.Prelude.{ℕ, ◌≤◌, List, [], ◌∷◌, Option}
use Rattle.js_terms.specs.declared.place.Pos.{Pos}

-- none stands before this many bytes, nor before the mark that it follows
abbrev pub Ascending : ℕ → List (ℕ × Option Pos) → Type 0
Ascending least [] = Unit {0}
Ascending least (m ∷ ms) = (least ≤ m.0) × Ascending m.0 ms
