-- The part of a tree at each place of a program's code.
use Rattle.std.specs.Prelude.{◌≡◌, ℕ, zero, suc, List, ◌++◌, Option, Some, None, slice_get}
use Rattle.js_code.specs.declared.node.Node.{Node}
use Rattle.js_code.specs.declared.node.Node.TheVariants.{Missing}
use Rattle.js_code.specs.Part.{NoPart}
use Rattle.js_code.specs.Node.{Reader, build, PartsBelow, ScopeHolds}

-- past the end there is nothing
abbrev pub node_or : Option Node → Node
node_or None = Missing
node_or (Some node) = node

abbrev pub node_at : List Node → ℕ → Node
node_at nodes place = node_or (slice_get nodes place)

-- reads parts inside parts up to a depth
abbrev pub reader_to : ℕ → List Node → Reader
reader_to zero nodes place = NoPart
reader_to (suc depth) nodes place = build (reader_to depth nodes) (node_at nodes place)

-- reads each place: what stands inside it is no deeper than the place
unfoldable pub reader : List Node → Reader
reader nodes place = reader_to (suc place) nodes place

-- the parts of each node stand before it
pub record IsOrdered (nodes : List Node) : Type 0 where
  pub each : (i : ℕ) → PartsBelow i (node_at nodes i)

-- each node tells its scope
pub record ScopesHold (nodes : List Node) : Type 0 where
  pub each : (i : ℕ) → ScopeHolds (reader nodes) (node_at nodes i)

-- the new list is the old one and more
pub record Extends {A : Type 0} (old new : List A) : Type 0 where
  pub more : List A
  pub is : new ≡ old ++ more
