-- What `delete` may not be of: a bare name, parentheses notwithstanding (ECMA-262, 13.5.1.1).
use Rattle.std.specs.Prelude.{List, [], ◌∷◌}
use Rattle.js_terms.specs.declared.operators.UnaryOperator.{UnaryOperator}
use Rattle.js_terms.specs.declared.operators.UnaryOperator.TheVariants as unary
use Rattle.js_tree.specs.Plain.{Expr, IdentifierReference, Parenthesized, Unary}
use Rattle.js_scopes.specs.declared.fault.ScopeFault.{ScopeFault}
use Rattle.js_scopes.specs.declared.fault.ScopeFaultKind.TheVariants as kind
use Rattle.js_scopes.specs.Mentions.{start}

-- the name that an expression is
abbrev pub bare_name : Expr → List ScopeFault
bare_name (IdentifierReference loc _) = record { at = start loc; kind = kind.BadTarget } ∷ []
bare_name (Parenthesized _ inner) = bare_name inner
bare_name other = []

abbrev pub deleted : UnaryOperator → Expr → List ScopeFault
deleted unary.Delete operand = bare_name operand
deleted operator operand = []

abbrev pub deletes : Expr → List ScopeFault
deletes (Unary _ operator operand) = deleted operator operand
deletes other = []
