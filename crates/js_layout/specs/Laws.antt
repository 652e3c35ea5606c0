-- What is proved of the layout.
use Rattle.std.specs.Prelude.{◌≡◌, ℕ, ◌*◌, ◌≤◌, Bool, List, None, length}
use Rattle.std.specs.Str.{IsUtf8}
use Rattle.js_tree.specs.Plain.{File}
use Rattle.js_tree.specs.Same.{bare_file}
use Rattle.js_tree.specs.Height.{height_file}
use Rattle.js_reading.specs.Reads.{Reads}
use Rattle.js_scopes.specs.Checks.{first_fault}
use Rattle.js_layout.specs.Layout.{layout}
use Rattle.js_layout.specs.Neat.{neat_file}
use Rattle.js_layout.specs.Unplaced.{unplaced_file}
use Rattle.js_layout.specs.Printable.{Printable}

-- a text is read as this tree with its parentheses, but for places and comments
pub record ReadsNeat (text : List ℕ) (file : File) : Type 0 where
  pub tree : File
  pub reads : Reads text tree
  pub alike : unplaced_file tree ≡ unplaced_file (neat_file file)

-- a text is read as a tree that is the same as this one, but for places, comments and pairs of parentheses
pub record ReadsSame (text : List ℕ) (file : File) : Type 0 where
  pub tree : File
  pub reads : Reads text tree
  pub same : bare_file tree ≡ bare_file file

abbrev pub IsText : Type 0
IsText = (file : File) → Printable file → IsUtf8 (layout file)

abbrev pub ReadsAgain : Type 0
ReadsAgain = (file : File) → Printable file → ReadsNeat (layout file) file

abbrev pub ReadsSameAgain : Type 0
ReadsSameAgain = (file : File) → Printable file → ReadsSame (layout file) file

-- the tree that is read again is at most twice as high
abbrev pub ReadsLow : Type 0
ReadsLow = (file : File) (read : ReadsNeat (layout file) file) → height_file read.tree ≤ 2 * height_file file

-- the trees of texts that break no early rule can be printed
abbrev pub AcceptedPrints : Type 0
AcceptedPrints = (again : Bool) (bytes : List ℕ) (file : File) → IsUtf8 bytes → Reads bytes file → first_fault again file ≡ None → Printable file

-- what is read again is printed as the same text
abbrev pub PrintsAgain : Type 0
PrintsAgain = (file : File) (read : ReadsSame (layout file) file) → layout read.tree ≡ layout file

-- the text of the tree of a source is at most eight times as long as the source
abbrev pub PrintsShort : Type 0
PrintsShort = (bytes : List ℕ) (file : File) → IsUtf8 bytes → Reads bytes file → length (layout file) ≤ 8 * length bytes
