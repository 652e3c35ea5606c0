-- A printed text that is read again.
use Rattle.std.specs.Prelude.{◌≡◌, ℕ, ◌*◌, ◌≤◌, Bool, List, None, length}
use Rattle.std.specs.Str.{IsUtf8}
use Rattle.js_tree.specs.Plain.{File}
use Rattle.js_tree.specs.Same.{bare_file}
use Rattle.js_tree.specs.Height.{height_file}
use Rattle.js_text.specs.Limits.{source_limits, again_limits}
use Rattle.js_reading.specs.Reads.{Reads}
use Rattle.js_scopes.specs.Checks.{first_fault}
use Rattle.js_layout.specs.Layout.{layout}
use Rattle.js_layout.specs.Neat.{neat_file}
use Rattle.js_layout.specs.Unplaced.{unplaced_file}

-- the text of this file is read as a tree
pub record ReadAgain (text : List ℕ) (file : File) : Type 0 where
  pub utf8 : IsUtf8 text
  pub tree : File
  pub reads : Reads text tree
  -- it is the file with the parentheses that its places ask for, but for places and comments
  pub alike : unplaced_file tree ≡ unplaced_file (neat_file file)
  -- so it is the same but for places, comments and parentheses, at most twice as high, and printed as this text
  pub same : bare_file tree ≡ bare_file file
  pub low : height_file tree ≤ 2 * height_file file
  pub twice : layout tree ≡ text

-- the text of an accepted source is a text of what is read again
pub record SourceAgain (text bytes : List ℕ) (file : File) : Type 0 where
  pub read : ReadAgain text file
  pub short : length text ≤ 8 * length bytes
  pub bounded : length bytes ≤ source_limits.bytes → length text ≤ again_limits.bytes
  pub low : height_file file ≤ source_limits.height → height_file read.tree ≤ again_limits.height

-- of every source that has this tree and breaks no early rule
abbrev pub OfSources : List ℕ → File → Type 0
OfSources text file = (again : Bool) (bytes : List ℕ) → IsUtf8 bytes → Reads bytes file → first_fault again file ≡ None → SourceAgain text bytes file
