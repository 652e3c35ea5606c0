-- What an arrow's body says of itself: its height, how tightly the operand binds with which it ends, and whether it has a bare `in`.
use Rattle.std.specs.Prelude.{ℕ, Bool, false}
use Rattle.js_tree.specs.declared.tree.ConciseBody.{ConciseBody}
use Rattle.js_tree.specs.Plain as tree
use Rattle.js_tree.specs.Tree.{plain_concise_body}
use Rattle.js_reading.specs.Level.{assignment}
use Rattle.js_reading.specs.Makes.{bare_in, last_level}

abbrev pub last_of : tree.ConciseBody → ℕ
last_of (tree.ExpressionBody x) = last_level x
last_of (tree.BlockBody b) = assignment

abbrev pub bare_of : tree.ConciseBody → Bool
bare_of (tree.ExpressionBody x) = bare_in x
bare_of (tree.BlockBody b) = false

abbrev pub ends_at : ConciseBody → ℕ
ends_at b = last_of (plain_concise_body b)

abbrev pub has_bare_in : ConciseBody → Bool
has_bare_in b = bare_of (plain_concise_body b)
