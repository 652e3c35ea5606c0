-- Strings that stand alone, of which directives are made (11.2.1).
use Rattle.std.specs.Prelude.{Bool, true, false}
use Rattle.js_tree.specs.Plain.{Expr, Stmt}
use Rattle.js_tree.specs.Plain as tree

abbrev pub is_string : Expr → Bool
is_string (tree.StringLiteral l s) = true
is_string e = false

abbrev pub is_string_statement : Stmt → Bool
is_string_statement (tree.Expression l e) = is_string e
is_string_statement s = false

abbrev pub directive_of : Stmt → Stmt
directive_of (tree.Expression l (tree.StringLiteral m s)) = tree.Directive l s
directive_of s = s

abbrev pub directed_of : Bool → Stmt → Stmt
directed_of true s = directive_of s
directed_of false s = s
