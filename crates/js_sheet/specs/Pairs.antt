-- An expression's own pair of parentheses.
use Rattle.std.specs.Prelude.{Option, None}
use Rattle.js_terms.specs.declared.place.Loc.{Loc}
use Rattle.js_tree.specs.Plain.{Expr, Parenthesized}

-- the place of an expression's own pair
abbrev pub own_pair : Expr → Option Loc
own_pair (Parenthesized l e) = l
own_pair e = None
