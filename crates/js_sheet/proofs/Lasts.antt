-- The last character of a text, found by going through it.
use Rattle.std.proofs.Common.{◌≡◌, ℕ, List, [], ◌∷◌, Option, Some, None, refl}
use Rattle.js_sheet.specs.Meeting.{last_of}

-- the last of these characters, or else what was last
abbrev pub last_or : Option ℕ → List ℕ → Option ℕ
last_or last [] = last
last_or last (c ∷ cs) = last_or (Some c) cs

last_or_some : (x c : ℕ) (cs : List ℕ) → last_or (Some x) (c ∷ cs) ≡ last_of (c ∷ cs)
last_or_some x c [] = refl
last_or_some x c (d ∷ cs) = last_or_some c d cs

pub last_or_none : (cs : List ℕ) → last_or None cs ≡ last_of cs
last_or_none [] = refl
last_or_none (c ∷ []) = refl
last_or_none (c ∷ d ∷ cs) = last_or_some c d cs
