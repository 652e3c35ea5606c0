-- The paths that the files of a program ask for, in the order in which they are asked for.
use Rattle.std.specs.Prelude.{ℕ, Bool, List, [], ◌∷◌, ◌++◌, Option, None, Some, if◌then◌else◌}
use Rattle.std.specs.List.{list_any}
use Rattle.std.specs.Str.{bytes_eq}
use Rattle.js_tree.specs.Plain.{File}
use Rattle.js_scopes.specs.Mentions.{mentions_file}
use Rattle.js_scopes.specs.Required.{required_of}
use Rattle.path_globs.specs.Specifier.{resolve}

-- all paths that were asked for, and those of them that still wait to be read
pub record Asked : Type 0 where
  pub known : List (List ℕ)
  pub waiting : List (List ℕ)

abbrev pub is_among : List ℕ → List (List ℕ) → Bool
is_among path paths = list_any (bytes_eq path) paths

-- before anything is read
abbrev pub only_entry : List ℕ → Asked
only_entry entry = record { known = entry ∷ []; waiting = entry ∷ [] }

-- a path more waits at the end, where it was asked for for the first time
abbrev pub with_path : Asked → List ℕ → Asked
with_path asked path =
    if is_among path asked.known then asked
    else record { known = asked.known ++ path ∷ []; waiting = asked.waiting ++ path ∷ [] }

-- the same with what a specifier resolves to, where it does
abbrev pub with_found : Asked → Option (List ℕ) → Asked
with_found asked None = asked
with_found asked (Some path) = with_path asked path

-- with these specifiers of the file at a path, one after the other
abbrev pub with_specifiers : List ℕ → Asked → List (List ℕ) → Asked
with_specifiers from asked [] = asked
with_specifiers from asked (specifier ∷ specifiers) = with_specifiers from (with_found asked (resolve from specifier)) specifiers

-- with all that a file asks for, in the order of its text
abbrev pub with_file : List ℕ → File → Asked → Asked
with_file from tree asked = with_specifiers from asked (required_of (mentions_file tree))

-- with a path before all others that wait: it is the next to be read
abbrev pub before_others : List ℕ → Asked → Asked
before_others path asked = record { known = asked.known; waiting = path ∷ asked.waiting }
