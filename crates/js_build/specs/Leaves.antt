-- What one token leaves, as the code answers it.
use Rattle.std.specs.Prelude.{◌≡◌, ℕ, Option, None, Some, Result, IfOk}
use Rattle.std.specs.declared.alloc.AllocError.{AllocError}
use Rattle.js_tree.specs.Plain.{Expr}
use Rattle.js_tree.specs.Tree.{plain_expr}
use Rattle.js_reading.specs.Slots as slot
use Rattle.js_reading.specs.Productions.{primary}
use Rattle.js_build.specs.declared.operand.Operand.{Operand}
use Rattle.js_build.specs.declared.piece.Piece.{Piece}
use Rattle.js_build.specs.View.{plain_piece}

abbrev pub piece_if : Option Piece → Option slot.Piece
piece_if None = None
piece_if (Some p) = Some (plain_piece p)

-- what is left is this, unless memory is wanting
abbrev pub Leaves : Result (Option Piece) AllocError → Option slot.Piece → Type 0
Leaves result due = IfOk result (λ left. piece_if left ≡ due)

-- an expression that is one token, with its level
abbrev pub operand_if : Option Operand → Option (ℕ × Expr)
operand_if None = None
operand_if (Some x) = Some (x.level, plain_expr x.tree)

-- a leaf's expression is primary (13.2)
abbrev pub leveled : Option Expr → Option (ℕ × Expr)
leveled None = None
leveled (Some e) = Some (primary, e)

-- the expression is this one, if there is one, unless memory is wanting
abbrev pub IsLeaf : Result (Option Operand) AllocError → Option Expr → Type 0
IsLeaf result due = IfOk result (λ made. operand_if made ≡ leveled due)
