-- What is proved of rewritten trees, beside that they break no rule.
use Rattle.std.specs.Prelude.{◌≡◌, ℕ, ◌+◌, ◌*◌, ◌≤◌, decimal, ◌++◌, max, Bool, true, false, List, [], ◌∷◌, None, map, codes}
use Rattle.serde_json.specs.Data.{Data, number, negative, string, array, object, Items, no_items, item, Members, no_members, member, depth}
use Rattle.js_tree.specs.Codes.{Ordinary, functions_file, functions_stmts}
use Rattle.js_tree.specs.Height.{height_file, height_stmts}
use Rattle.js_tree.specs.Plain.{File, StringKey, MakeFunction, MakeFunctionBody, no_param, Stmts, no_stmt, more_stmt}
use Rattle.js_tree.specs.Same.{bare_file}
use Rattle.js_scopes.specs.Checks.{first_fault}
use Rattle.js_scopes.specs.Accepted.{Accepted}
use Rattle.std.specs.Str.{IsUtf8}
use Rattle.js_text.specs.Limits.{again_limits}
use Rattle.js_reading.specs.Makes.{is_proto}
use Rattle.js_reading.specs.Reads.{Reads}
use Rattle.js_layout.specs.Layout.{layout}
use Rattle.js_layout.specs.Printable.{Refers, IsString, IsExpr, AreStmts, Printable}
use Rattle.cov_rewritten.specs.Counters.{counter, name}
use Rattle.cov_rewritten.specs.Functions.{rewritten_code}
use Rattle.cov_rewritten.specs.Preamble.{json_string, literal, returns, first_body, preamble}
use Rattle.cov_rewritten.specs.Rewritten.{rewritten_file}
use Rattle.cov_rewritten.specs.Whole.{rewritten, IsFresh}

-- the rewritten tree of what can be printed can be printed, if its preamble can, and N is a name with which a statement may begin
abbrev pub KeepsPrintable : Type 0
KeepsPrintable = (n path hash : List ℕ) (zero : Data) (tree : File) → Printable tree → Refers n → AreStmts false (preamble n path hash zero) → Printable (rewritten n path hash zero tree)

-- it has eight levels at most for each of the source's, and its preamble
abbrev pub KeepsLow : Type 0
KeepsLow = (n path hash : List ℕ) (zero : Data) (tree : File) → Printable tree →
    height_file (rewritten n path hash zero tree) ≤ max (height_stmts (preamble n path hash zero)) (8 * height_file tree)

-- its functions are those of the preamble, and then those of the tree with its marks, in the same order
abbrev pub KeepsFunctions : Type 0
KeepsFunctions = (n : List ℕ) (code : ℕ → ℕ) (first : Stmts) (tree : File) →
    functions_file (rewritten_file (counter n) code first tree) ≡ functions_stmts first ++ map (rewritten_code (counter n) code) (functions_file tree)

-- the functions of the preamble: N, and the one that takes its place
abbrev pub FirstFunctions : Type 0
FirstFunctions = (n path hash : List ℕ) (zero : Data) →
    functions_stmts (preamble n path hash zero)
    ≡ Ordinary (MakeFunction 0 no_param (MakeFunctionBody None (first_body n (json_string path) (json_string hash) (literal zero))))
    ∷ Ordinary (MakeFunction 0 no_param (MakeFunctionBody None (more_stmt (returns (name (codes "actual"))) no_stmt))) ∷ []

-- trees that are the same break the same rules
abbrev pub SameBreaksAlike : Type 0
SameBreaksAlike = (again : Bool) (x y : File) → bare_file x ≡ bare_file y → first_fault again x ≡ None → first_fault again y ≡ None

-- a text is read again as a tree that is the same, low enough and with no rule broken
pub record ReadsWell (text : List ℕ) (file : File) : Type 0 where
  pub tree : File
  pub utf8 : IsUtf8 text
  pub reads : Reads text tree
  pub same : bare_file tree ≡ bare_file file
  pub low : height_file tree ≤ again_limits.height
  pub unbroken : first_fault true tree ≡ None

-- ---- the preamble's values

-- a text of JSON is spelt as a string is
abbrev pub SpellsTexts : Type 0
SpellsTexts = (s : List ℕ) → IsUtf8 s → IsString (json_string s)

-- a value whose texts are UTF-8, with no number below zero and no member `__proto__`
abbrev mutual
  pub IsSpelt : Data → Type 0
  IsSpelt (number (negative z)) = ⊥
  IsSpelt (string s) = IsUtf8 s
  IsSpelt (array ds) = AreSpelt ds
  IsSpelt (object ms) = MembersAreSpelt ms
  IsSpelt d = Unit {0}

  pub AreSpelt : Items → Type 0
  AreSpelt no_items = Unit {0}
  AreSpelt (item d ds) = IsSpelt d × AreSpelt ds

  pub MembersAreSpelt : Members → Type 0
  MembersAreSpelt no_members = Unit {0}
  MembersAreSpelt (member k d ms) = IsUtf8 k × (is_proto (StringKey (json_string k)) ≡ false) × IsSpelt d × MembersAreSpelt ms

abbrev pub SpellsValues : Type 0
SpellsValues = (d : Data) → IsSpelt d → IsExpr (literal d)

-- a number in decimal, as an id is one, may be the key of a member
abbrev pub NumbersAreKeys : Type 0
NumbersAreKeys = (n : ℕ) → IsUtf8 (decimal n) × (is_proto (StringKey (json_string (decimal n))) ≡ false)

-- the preamble has two levels at most for each of the value's, and its own
abbrev pub StandsLow : Type 0
StandsLow = (n path hash : List ℕ) (zero : Data) → height_stmts (preamble n path hash zero) ≤ 2 * depth zero + 10

-- ---- a text

-- the text of an accepted source, rewritten, is read again so, where the path and the hash are UTF-8, and the data is such a value, at most 11 deep
abbrev pub RewritesWell : Type 0
RewritesWell = (n path hash : List ℕ) (zero : Data) (bytes : List ℕ) (tree : File) → Accepted bytes tree → Refers n → IsFresh n tree →
    IsUtf8 path → IsUtf8 hash → IsSpelt zero → depth zero ≤ 11 → ReadsWell (layout (rewritten n path hash zero tree)) (rewritten n path hash zero tree)
