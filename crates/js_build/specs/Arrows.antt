-- Parameters that were read as expressions (15.3).
use Rattle.std.specs.Prelude.{Option, Some, None}
use Rattle.js_terms.specs.declared.place.Loc.{Loc}
use Rattle.js_tree.specs.Plain.{Expr}
use Rattle.js_tree.specs.Plain as tree

-- a name with a default
abbrev pub default_of : Option Loc → Expr → Expr → Option tree.Param
default_of l (tree.IdentifierReference m w) v = Some (tree.MakeParam l (tree.BindingIdentifier m w) (tree.some_expr v))
default_of l e v = None
