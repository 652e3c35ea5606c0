-- The path that a file asks for by a specifier (CommonJS, of relative specifiers alone).
use Rattle.std.specs.Prelude.{ℕ, ◌==◌, Bool, ◌||◌, List, [], ◌∷◌, ◌++◌, Option, None, if◌then◌else◌, nat_eq, codes}
use Rattle.std.specs.List.{starts_with, ends_with}
use Rattle.path_globs.specs.NormalForm.{normal}

-- a specifier that is resolved from the folder of the file that asks
abbrev pub is_relative : List ℕ → Bool
is_relative specifier = starts_with nat_eq specifier (codes "./") || starts_with nat_eq specifier (codes "../")

-- a character stays before others that stay, and where it is `/`
abbrev pub kept_before : ℕ → List ℕ → List ℕ
kept_before c [] = if c == 47 then c ∷ [] else []
kept_before c (d ∷ ds) = c ∷ d ∷ ds

-- a path up to and with its last `/`: nothing where it has none
abbrev pub folder : List ℕ → List ℕ
folder [] = []
folder (c ∷ cs) = kept_before c (folder cs)

-- a source's ending, where it isn't there
abbrev pub ending : List ℕ → List ℕ
ending specifier = if ends_with nat_eq specifier (codes ".js") then [] else codes ".js"

-- the path of the file that the one at a path asks for, where there is one
abbrev pub resolve : List ℕ → List ℕ → Option (List ℕ)
resolve path specifier = if is_relative specifier then normal (folder path ++ (specifier ++ ending specifier)) else None
