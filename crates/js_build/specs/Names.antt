-- A name that stands alone.
use Rattle.std.specs.Prelude.{Option, Some, None}
use Rattle.js_terms.specs.declared.words.Identifier.{Identifier}
use Rattle.js_tree.specs.Plain.{Expr}
use Rattle.js_tree.specs.Plain as tree

-- the name that an expression is alone, if it is one
abbrev pub identifier_of : Expr → Option Identifier
identifier_of (tree.IdentifierReference l w) = Some (record { name = w; loc = l })
identifier_of e = None
