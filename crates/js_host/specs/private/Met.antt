-- Keys that were met, and the size of a character.
use Rattle.std.specs.Prelude.{◌≡◌, ℕ, ◌&&◌, List, [], ◌∷◌, if◌then◌else◌}
use Rattle.std.specs.List.{list_any}
use Rattle.std.specs.Str.{bytes_eq}
use Rattle.js_value.specs.Host.{leads, trails}

-- the same keys stand in both
abbrev pub SameMet : List (List ℕ) → List (List ℕ) → Type 0
SameMet xs ys = (key : List ℕ) → list_any (bytes_eq key) xs ≡ list_any (bytes_eq key) ys

-- how many units the first character has
abbrev pub size_of : List ℕ → ℕ
size_of [] = 0
size_of (u ∷ []) = 1
size_of (u ∷ w ∷ us) = if leads u && trails w then 2 else 1
