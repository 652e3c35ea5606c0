-- Programs whose trees are the same but for their places, comments and pairs of parentheses.
use Rattle.std.specs.Prelude.{◌≡◌, List, [], ◌∷◌, map}
use Rattle.js_tree.specs.Same.{bare_function, bare_params, bare_concise_body, bare_file}
use Rattle.js_tree.specs.Codes.{Code, Ordinary, OfMethod, Arrow}
use Rattle.js_meaning.specs.Program.{Source, Sources}

-- two files of a program: the same path, and alike trees
pub record IsAlike (x y : Source) : Type 0 where
  pub path : x.path ≡ y.path
  pub tree : bare_file x.tree ≡ bare_file y.tree

abbrev pub EachAlike : List Source → List Source → Type 0
EachAlike [] [] = Unit {0}
EachAlike (x ∷ xs) (y ∷ ys) = IsAlike x y × EachAlike xs ys
EachAlike _ _ = ⊥

-- two programs: their files one by one, and the trees of what runs before them
pub record AreAlike (p q : Sources) : Type 0 where
  pub files : EachAlike p.files q.files
  pub prelude : bare_file p.prelude ≡ bare_file q.prelude

-- Without places, comments and parentheses

abbrev pub bare_code : Code → Code
bare_code (Ordinary function) = Ordinary (bare_function function)
bare_code (OfMethod function) = OfMethod (bare_function function)
bare_code (Arrow number params body) = Arrow number (bare_params params) (bare_concise_body body)

abbrev pub bare_source : Source → Source
bare_source source = record source { tree = bare_file source.tree }

abbrev pub bare : Sources → Sources
bare p = record { files = map bare_source p.files; prelude = bare_file p.prelude }
