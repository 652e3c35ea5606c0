-- What putting nodes at the end does.
use Rattle.std.specs.Prelude.{◌≡◌, ℕ, Bool, ◌<◌, ◌≤◌, List, length}
use Rattle.js_code.specs.declared.node.Node.{Node}
use Rattle.js_code.specs.Code.{reader, Extends}

-- a program's code so far: its nodes, the place of each function's code by its number, and whether memory was wanting
pub record Compiling : Type 0 where
  pub nodes : List Node
  pub functions : List ℕ
  pub wanting : Bool

-- the new nodes are the old ones and more, and each old place reads as before
pub record Grows (old new : List Node) : Type 0 where
  pub extends : Extends old new
  pub longer : length old ≤ length new
  pub same : (i : ℕ) → i < length old → reader new i ≡ reader old i
