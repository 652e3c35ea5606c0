-- What stands after the parameter of a `catch`.
use Rattle.std.specs.Prelude.{ℕ, List, [], ◌∷◌, Option, Some, None}
use Rattle.js_terms.specs.declared.place.Loc.{Loc}
use Rattle.js_tree.specs.Plain.{Stmts, MaybePattern, none_pattern, some_pattern}
use Rattle.js_tree.specs.Plain as tree
use Rattle.js_tree.specs.Tree.{plain_stmts}
use Rattle.js_reading.specs.Makes.{bound}
use Rattle.js_reading.specs.Slots.{Piece, AStmt, TheStmts, Missing}
use Rattle.js_build.specs.Shapes.{if_over, none_left}
use Rattle.js_build.specs.declared.operand.Statements.{Statements}

-- what a `catch` binds, by its name and where that stands
abbrev pub caught : Option (List ℕ × Loc) → MaybePattern
caught None = none_pattern
caught (Some x) = some_pattern (bound x.0 x.1)

abbrev pub handled_of : Loc → Stmts → MaybePattern → List Piece → Option Piece
handled_of l b p (TheStmts c ∷ Missing ∷ []) = Some (AStmt (tree.TryCatch (Some l) b (tree.MakeCatch p c)))
handled_of l b p (TheStmts c ∷ TheStmts f ∷ []) = Some (AStmt (tree.TryCatchFinally (Some l) b (tree.MakeCatch p c) f))
handled_of l b p ps = None

-- the statements of `finally`, if there is one
abbrev pub last_of : List Piece → Option (Option Stmts)
last_of (Missing ∷ ps) = if_over (none_left ps) None
last_of (TheStmts f ∷ ps) = if_over (none_left ps) (Some f)
last_of ps = None

abbrev pub last_view : Option (Option Statements) → Option (Option Stmts)
last_view None = None
last_view (Some None) = Some None
last_view (Some (Some x)) = Some (Some (plain_stmts x.items))
