-- What stands in parentheses and after them.
use Rattle.std.specs.Prelude.{Bool, true, false, List, ◌∷◌, Option, Some, None}
use Rattle.js_terms.specs.declared.place.Loc.{Loc}
use Rattle.js_tree.specs.Plain.{Expr, Exprs, no_expr, more_expr}
use Rattle.js_tree.specs.Plain as tree
use Rattle.js_tree.specs.Tree.{plain_exprs}
use Rattle.js_reading.specs.Spans.{through}
use Rattle.js_reading.specs.Slots.{Piece, AnExpr, APlace, Missing, TheExprs}
use Rattle.js_reading.specs.Makes.{arrow_of, comma_of, concise, loc_of, params_of}
use Rattle.js_build.specs.Shapes.{if_over, none_left}
use Rattle.js_build.specs.declared.operand.List as code

abbrev pub both : Option Loc → Option Loc → Option Loc
both (Some l) (Some m) = Some (through l m)
both l m = None

-- a comma between two expressions, from the one to the other
abbrev pub pair : Expr → Expr → Expr
pair x y = tree.Comma (both (loc_of x) (loc_of y)) x y

-- a comma between every two
abbrev pub joined : Expr → Exprs → Expr
joined e no_expr = e
joined e (more_expr x xs) = joined (pair e x) xs

-- parentheses that are no arrow's, with the pieces after them
abbrev pub parenthesized : Loc → Bool → Exprs → List Piece → Option Piece
parenthesized l true xs ps = None
parenthesized l false no_expr ps = None
parenthesized l false (more_expr e es) ps = if_over (none_left ps) (AnExpr 21 (tree.Parenthesized (Some l) (comma_of loc_of e es)))

-- with what stands after the items in parentheses
abbrev pub after_list : Loc → Bool → Exprs → List Piece → Option Piece
after_list l trailing xs (Missing ∷ ps) = parenthesized l trailing xs ps
after_list l trailing xs (AnExpr i e ∷ ps) = arrow_of l (params_of xs) (concise (AnExpr i e ∷ ps))
after_list l trailing xs (APlace m ∷ ps) = arrow_of l (params_of xs) (concise (APlace m ∷ ps))
after_list l trailing xs ps = None

-- the items that are first, and the pieces after them
abbrev pub first_list : List Piece → Option ((Bool × Exprs) × List Piece)
first_list (TheExprs trailing xs ∷ ps) = Some ((trailing, xs), ps)
first_list ps = None

abbrev pub list_taken : Option (Bool × code.List) → List Piece → Option ((Bool × Exprs) × List Piece)
list_taken None ps = None
list_taken (Some x) ps = Some ((x.0, plain_exprs x.1.items), ps)
