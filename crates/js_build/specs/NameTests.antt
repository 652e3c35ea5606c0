-- A name alone (13.1).
use Rattle.std.specs.Prelude.{Bool, true, false}
use Rattle.js_tree.specs.Plain.{Expr}
use Rattle.js_tree.specs.Plain as tree

abbrev pub is_name : Expr → Bool
is_name (tree.IdentifierReference l w) = true
is_name e = false
