-- Which sources the suite accepts, and as which tree.
use Rattle.std.specs.Prelude.{◌≡◌, ℕ, ◌≤◌, true, false, List, None, length}
use Rattle.std.specs.Str.{IsUtf8}
use Rattle.js_text.specs.Limits.{source_limits, again_limits}
use Rattle.js_reading.specs.Reads.{Reads}
use Rattle.js_tree.specs.Plain.{File}
use Rattle.js_tree.specs.Height.{height_file}
use Rattle.js_scopes.specs.Checks.{first_fault}

-- the bytes are a source of this tree: UTF-8 within the limits, read to the tree, which breaks no early rule
pub record Accepted (bytes : List ℕ) (tree : File) : Type 0 where
  pub within : length bytes ≤ source_limits.bytes
  pub utf8 : IsUtf8 bytes
  pub reads : Reads bytes tree
  pub low : height_file tree ≤ source_limits.height
  pub unbroken : first_fault false tree ≡ None

-- the same of a text that the suite has written, which is read again: within the limits of such, and the name `globalThis` may stand in it
pub record AcceptedAgain (bytes : List ℕ) (tree : File) : Type 0 where
  pub within : length bytes ≤ again_limits.bytes
  pub utf8 : IsUtf8 bytes
  pub reads : Reads bytes tree
  pub low : height_file tree ≤ again_limits.height
  pub unbroken : first_fault true tree ≡ None
