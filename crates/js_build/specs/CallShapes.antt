-- One list, in brackets; what stands after the callee of a construction, and after a dot.
use Rattle.std.specs.Prelude.{ℕ, List, [], ◌∷◌, Option, Some, None}
use Rattle.js_tree.specs.Plain.{Exprs, no_expr}
use Rattle.js_tree.specs.Tree.{plain_exprs}
use Rattle.js_reading.specs.Slots.{Piece, AWord, Missing, TheExprs}
use Rattle.js_build.specs.Shapes.{if_over, none_left}
use Rattle.js_build.specs.declared.operand.List as code

abbrev pub one_list : List Piece → Option Exprs
one_list (TheExprs trailing xs ∷ []) = Some xs
one_list ps = None

abbrev pub list_if : Option code.List → Option Exprs
list_if None = None
list_if (Some xs) = Some (plain_exprs xs.items)

-- arguments and the level of a construction by them (13.3.5)
abbrev pub arguments_of : List Piece → Option (ℕ × Exprs)
arguments_of (Missing ∷ ps) = if_over (none_left ps) (19, no_expr)
arguments_of (TheExprs trailing xs ∷ ps) = if_over (none_left ps) (21, xs)
arguments_of ps = None

abbrev pub arguments_view : Option (ℕ × code.List) → Option (ℕ × Exprs)
arguments_view None = None
arguments_view (Some x) = Some (x.0, plain_exprs x.1.items)

abbrev pub one_name : List Piece → Option (List ℕ)
one_name (AWord w l ∷ ps) = if_over (none_left ps) w
one_name ps = None
