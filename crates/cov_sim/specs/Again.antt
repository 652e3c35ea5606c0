-- A text that is read again.
use Rattle.std.specs.Prelude.{◌≡◌, ℕ, List}
use Rattle.js_tree.specs.Plain.{File}
use Rattle.js_tree.specs.Same.{bare_file}
use Rattle.js_scopes.specs.Accepted.{AcceptedAgain}

-- within the limits of such texts, as a tree that breaks no early rule and is this file but for places, comments and parentheses
pub record IsReadAgain (text : List ℕ) (file : File) : Type 0 where
  pub tree : File
  pub accepted : AcceptedAgain text tree
  pub same : bare_file tree ≡ bare_file file
