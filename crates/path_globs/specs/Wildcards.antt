-- Patterns of paths: which paths a pattern stands for.
use Rattle.std.specs.Prelude.{ℕ, ◌==◌, Bool, true, false, ◌||◌, ◌&&◌, List, [], ◌∷◌, if◌then◌else◌, codes}
use Rattle.std.specs.Str.{bytes_eq, chars}
use Rattle.path_globs.specs.NormalForm.{components}

-- a list, or what is left of it after any of its first items
abbrev pub from_some : {A : Type 0} → (List A → Bool) → List A → Bool
from_some holds [] = holds []
from_some holds (x ∷ xs) = holds (x ∷ xs) || from_some holds xs

abbrev pub from_first : {A : Type 0} → (A → Bool) → (List A → Bool) → List A → Bool
from_first one rest [] = false
from_first one rest (x ∷ xs) = one x && rest xs

abbrev pub is_empty : {A : Type 0} → List A → Bool
is_empty [] = true
is_empty (x ∷ xs) = false

-- whether a list is one that a list of pieces stands for, where some pieces stand for any run of items, and each other one for one item
abbrev pub stand_for : {P A : Type 0} → (P → Bool) → (P → A → Bool) → List P → List A → Bool
stand_for is_run stands_for [] xs = is_empty xs
stand_for is_run stands_for (p ∷ ps) xs =
    if is_run p then from_some (stand_for is_run stands_for ps) xs else from_first (stands_for p) (stand_for is_run stands_for ps) xs

-- `*`
abbrev pub is_star : ℕ → Bool
is_star c = c == 42

-- `?` stands for every character, and any other for itself
abbrev pub stands_for_character : ℕ → ℕ → Bool
stands_for_character p c = (p == 63) || (p == c)

-- a component of a pattern, for one of a path
abbrev pub stands_for_component : List ℕ → List ℕ → Bool
stands_for_component pattern component = stand_for is_star stands_for_character (chars pattern) (chars component)

abbrev pub is_two_stars : List ℕ → Bool
is_two_stars component = bytes_eq component (codes "**")

-- a pattern of components, for a path: `**` stands for any number of components, `*` for any run of characters in a component, `?` for
-- one of them, and all else for itself
abbrev pub matches : List ℕ → List ℕ → Bool
matches pattern path = stand_for is_two_stars stands_for_component (components pattern) (components path)
