-- The heads of `for`, read from the front.
use Rattle.std.specs.Prelude.{ℕ, Bool, true, false, not, ◌&&◌, List, ◌∷◌, Option, Some, None}
use Rattle.js_terms.specs.declared.place.Loc.{Loc}
use Rattle.js_tree.specs.Plain.{Expr, Stmt, MaybeExpr, none_expr, some_expr}
use Rattle.js_tree.specs.Plain as tree
use Rattle.js_reading.specs.Slots.{AnExpr, AStmt, AWord, IsIn, IsOf, Missing}
use Rattle.js_reading.specs.Slots as slot
use Rattle.js_reading.specs.Makes.{is_async, is_target, maybe}
use Rattle.js_build.specs.declared.operand.Operand.{Operand}
use Rattle.js_build.specs.declared.piece.Piece.{Piece}
use Rattle.js_build.specs.Lists.{test_view}
use Rattle.js_build.specs.Shapes.{expr_stmt}
use Rattle.js_build.specs.View.{plain_piece}

-- a part that may be left out
abbrev pub maybe_of : Option Piece → Option MaybeExpr
maybe_of None = None
maybe_of (Some x) = maybe (plain_piece x)

abbrev pub maybe_view : Option (Option Operand) → Option MaybeExpr
maybe_view None = None
maybe_view (Some x) = Some (test_view x)

-- the same, and the pieces after it
abbrev pub first_maybe : List slot.Piece → Option (MaybeExpr × List slot.Piece)
first_maybe (Missing ∷ ps) = Some (none_expr, ps)
first_maybe (AnExpr i e ∷ ps) = Some (some_expr e, ps)
first_maybe ps = None

abbrev pub maybe_taken : Option (Option Operand) → List slot.Piece → Option (MaybeExpr × List slot.Piece)
maybe_taken None ps = None
maybe_taken (Some x) ps = Some (test_view x, ps)

-- what stands after `in` or `of`
abbrev pub each_made : Bool → Loc → tree.ForTarget → Option ((ℕ × Expr) × Stmt) → Option slot.Piece
each_made of l t None = None
each_made true l t (Some x) = Some (AStmt (tree.ForOf (Some l) t x.0.1 x.1))
each_made false l t (Some x) = Some (AStmt (tree.ForIn (Some l) t x.0.1 x.1))

abbrev pub each_of : Bool → Loc → tree.ForTarget → List slot.Piece → Option slot.Piece
each_of of l t ps = each_made of l t (expr_stmt ps)

-- `in` or `of`, where one is next, and the pieces after it
abbrev pub first_each : List slot.Piece → Option (Bool × List slot.Piece)
first_each (IsIn ∷ ps) = Some (false, ps)
first_each (IsOf ∷ ps) = Some (true, ps)
first_each ps = None

-- a name, where one is next, and the pieces after it
abbrev pub first_word : List slot.Piece → Option ((List ℕ × Loc) × List slot.Piece)
first_word (AWord w l ∷ ps) = Some ((w, l), ps)
first_word ps = None

-- what may be assigned to before `in` or `of` (14.7.5)
abbrev pub may_take : Bool → Expr → Bool
may_take true x = is_target x && not (is_async x)
may_take false x = is_target x

-- what is made, unless that is refused
abbrev pub guarded : Bool → Option slot.Piece → Option slot.Piece
guarded true o = o
guarded false o = None
