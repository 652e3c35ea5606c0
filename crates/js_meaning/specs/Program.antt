-- A program as plain data.
use Rattle.std.specs.Prelude.{ℕ, suc, Bool, true, false, List, [], ◌∷◌, ◌++◌, map, Option, Some, None, position, slice_get}
use Rattle.std.specs.Str.{bytes_eq}
use Rattle.js_tree.specs.Plain as P
use Rattle.js_tree.specs.Tree.{plain_file}
use Rattle.js_tree.specs.Linked.{Marking, Unmarked, Marked, Numbers, Linked, link_file}
use Rattle.js_tree.specs.Unmarked.{unmarked_file}
use Rattle.js_tree.specs.Codes.{Code, functions_file, is_constructor}
use Rattle.js_meaning.specs.declared.program.ProgramFile.{ProgramFile}
use Rattle.js_meaning.specs.declared.program.Program.{Program}

-- a file: its path, its tree, and whether it is counted
pub record Source : Type 0 where
  pub path : List ℕ
  pub tree : P.File
  pub counted : Bool

-- the files of a program, and the tree of what runs before them
pub record Sources : Type 0 where
  pub files : List Source
  pub prelude : P.File

abbrev pub source_of : ProgramFile → Source
source_of file = record { path = file.path; tree = plain_file file.tree; counted = file.counted }

abbrev pub sources_of : Program → Sources
sources_of program = record { files = map source_of program.files; prelude = plain_file program.prelude }

-- The marks and the functions' numbers of a program

abbrev pub marking : Bool → ℕ → Marking
marking true file = Marked file
marking false file = Unmarked

-- a file's constructs are numbered from 0, and its functions on from those before
abbrev pub from : ℕ → Numbers
from code = record { code = code; counts = record { statements = 0; functions = 0; branches = 0 } }

abbrev pub link_source : Source → ℕ → ℕ → Linked P.File
link_source source file code = link_file (marking source.counted file) source.tree (from code)

abbrev pub link_sources : List Source → ℕ → ℕ → List Source
link_sources [] file code = []
link_sources (source ∷ sources) file code =
    record source { tree = (link_source source file code).tree } ∷ link_sources sources (suc file) (link_source source file code).next.code

-- the program that runs: the prelude and the files in their order, with marks in the counted ones
abbrev pub linked : Sources → Sources
linked p = record {
  files = link_sources p.files 0 (link_file Unmarked p.prelude (from 0)).next.code;
  prelude = (link_file Unmarked p.prelude (from 0)).tree;
}

-- the functions of a program in their order, and the one with a number
abbrev pub functions_of : List Source → List Code
functions_of [] = []
functions_of (source ∷ sources) = functions_file source.tree ++ functions_of sources

abbrev pub functions : Sources → List Code
functions p = functions_file p.prelude ++ functions_of p.files

abbrev pub function_at : Sources → ℕ → Option Code
function_at p n = slice_get (functions p) n

-- whether `new` may call the function with a number: none where there is none
abbrev pub constructs : Sources → ℕ → Bool
constructs p n = elim (function_at p n) [ None ↦ false | Some code ↦ is_constructor code ]

-- the same without its marks, and with no file counted
abbrev pub unmarked_source : Source → Source
unmarked_source source = record { path = source.path; tree = unmarked_file source.tree; counted = false }

abbrev pub unmarked : Sources → Sources
unmarked p = record { files = map unmarked_source p.files; prelude = unmarked_file p.prelude }

-- the same files, none of them counted
abbrev pub uncounted_source : Source → Source
uncounted_source source = record source { counted = false }

abbrev pub uncounted : Sources → Sources
uncounted p = record p { files = map uncounted_source p.files }

-- the number of the file with a path
abbrev pub file_at : Sources → List ℕ → Option ℕ
file_at p path = position (λ source. bytes_eq source.path path) p.files
