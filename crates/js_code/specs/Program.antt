-- The code of a program.
use Rattle.std.specs.Prelude.{◌≡◌, ℕ, ◌<◌, List, length, map, Option, Some, None, slice_get}
use Rattle.js_tree.specs.Plain as P
use Rattle.js_tree.specs.Plain.{MakeFile}
use Rattle.js_tree.specs.Codes.{Code}
use Rattle.js_meaning.specs.Program.{Source, Sources, function_at}
use Rattle.js_code.specs.declared.node.Node.{Node}
use Rattle.js_code.specs.declared.code.FileCode.{FileCode}
use Rattle.js_code.specs.Part.{as_code, as_stmts}
use Rattle.js_code.specs.Code.{reader}
use Rattle.js_code.specs.Scopes.{file_scope}

-- its nodes, the place of each function's code by the function's number, its files, and the place of the prelude's statements
pub record ProgramCode : Type 0 where
  pub nodes : List Node
  pub functions : List ℕ
  pub files : List FileCode
  pub prelude : ℕ

abbrev pub file_stmts : P.File → P.Stmts
file_stmts (MakeFile xs comments) = xs

-- the function with a number
abbrev pub IsFunction : List Node → Option ℕ → Option Code → Type 0
IsFunction nodes None code = code ≡ None
IsFunction nodes (Some place) code = (place < length nodes) × (code ≡ Some (as_code (reader nodes place)))

-- statements at a place
abbrev pub AreStmts : List Node → ℕ → P.Stmts → Type 0
AreStmts nodes place xs = (place < length nodes) × (xs ≡ as_stmts (reader nodes place))

-- a file
pub record ReadsFile (nodes : List Node) (file : FileCode) (source : Source) : Type 0 where
  pub path : file.path ≡ source.path
  pub statements : AreStmts nodes file.statements (file_stmts source.tree)
  pub scope : file.scope ≡ file_scope (file_stmts source.tree)

pub data IsFile (nodes : List Node) : Option FileCode → Option Source → Type 0 where
  no_file : IsFile nodes None None
  a_file : (file : FileCode) (source : Source) → ReadsFile nodes file source → IsFile nodes (Some file) (Some source)

-- the code of a program whose functions have their numbers
pub record IsCodeOf (p : Sources) (code : ProgramCode) : Type 0 where
  pub functions : (n : ℕ) → IsFunction code.nodes (slice_get code.functions n) (function_at p n)
  pub files : (n : ℕ) → IsFile code.nodes (slice_get code.files n) (slice_get p.files n)
  pub paths : map (λ (f : FileCode). f.path) code.files ≡ map (λ (s : Source). s.path) p.files
  pub prelude : AreStmts code.nodes code.prelude (file_stmts p.prelude)
