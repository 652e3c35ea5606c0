-- The path that a text names from the folder of a file, where a `..` may lead out of all folders that are known: so a source map
-- names its sources from the folder of the file that it is of.
use Rattle.std.specs.Prelude.{ℕ, List, [], ◌∷◌, ◌++◌, fold, if◌then◌else◌, codes}
use Rattle.std.specs.Str.{bytes_eq}
use Rattle.path_globs.specs.NormalForm.{components, is_dropped, is_from_root, spelled}
use Rattle.path_globs.specs.Specifier.{folder}

-- a `..` takes the component before it away, and stays where none or another such stands before it
abbrev pub up_from : List (List ℕ) → List (List ℕ)
up_from [] = codes ".." ∷ []
up_from (last ∷ []) = if bytes_eq last (codes "..") then last ∷ codes ".." ∷ [] else []
up_from (first ∷ second ∷ rest) = first ∷ up_from (second ∷ rest)

-- the components kept, after one more
abbrev pub with_component : List (List ℕ) → List ℕ → List (List ℕ)
with_component kept component =
    if is_dropped component then kept else (if bytes_eq component (codes "..") then up_from kept else kept ++ component ∷ [])

-- the form of a path in which a `..` at the front stays: every path has one
abbrev pub open_form : List ℕ → List ℕ
open_form path = spelled (is_from_root path) (fold with_component [] (components path))

-- a path from the folder of a file, in that form
abbrev pub beside : List ℕ → List ℕ → List ℕ
beside file path = open_form (folder file ++ path)
