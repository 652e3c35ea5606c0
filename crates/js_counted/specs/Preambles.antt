-- What stands before a file's statements is the preamble, as a program's functions are numbered.
use Rattle.std.specs.Prelude.{◌≡◌, ℕ, ◌+◌, List, [], ◌∷◌, None}
use Rattle.serde_json.specs.Data.{Data}
use Rattle.js_tree.specs.Codes.{functions_stmts}
use Rattle.js_tree.specs.Linked.{Unmarked, Numbers, link_stmts}
use Rattle.cov_rewritten.specs.Preamble.{json_string, literal, preamble}
use Rattle.js_counter.specs.Literals.{expr_of}
use Rattle.js_counter.specs.Steady.{gives_actual}
use Rattle.js_counter.specs.First.{first_code}
use Rattle.js_counted.specs.Files.{FileCounters}
use Rattle.js_counted.specs.Holds.{coverage_text}
use Rattle.js_counted.specs.Program.{preamble_of}

-- the preamble of a name, a path, a hash and data of JSON, where these are a file's
abbrev pub PreambleLinked : Type 0
PreambleLinked = (f : FileCounters) (path hash : List ℕ) (zero : Data) (k : Numbers) → f.path ≡ json_string path → f.hash ≡ json_string hash → expr_of f.zero ≡ literal zero →
    k.code ≡ f.first → (link_stmts Unmarked (preamble f.name path hash zero) k).tree ≡ preamble_of f

-- its functions: the first, and the one that takes its place
abbrev pub PreambleCodes : Type 0
PreambleCodes = (f : FileCounters) → functions_stmts (preamble_of f)
    ≡ first_code f.first f.name f.path f.hash coverage_text (expr_of f.zero) (f.first + 1) ∷ gives_actual (f.first + 1) None None None ∷ []
