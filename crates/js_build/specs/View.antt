-- The pieces of the definitions that those of the code are.
use Rattle.std.specs.Prelude.{◌≡◌, ℕ, List, [], ◌∷◌, Option, Some, Result, IfOk}
use Rattle.std.specs.Option.{option_map}
use Rattle.std.specs.declared.alloc.AllocError.{AllocError}
use Rattle.js_tree.specs.Plain as tree
use Rattle.js_terms.specs.declared.place.Loc.{Loc}
use Rattle.js_tree.specs.declared.tree.ExprNode.{ExprNode}
use Rattle.js_tree.specs.declared.tree.StmtNode.{StmtNode}
use Rattle.js_tree.specs.Tree.{plain_expr, plain_expr_node, plain_exprs, plain_property_key, plain_stmt, plain_stmt_node, plain_stmts}
use Rattle.js_reading.specs.Slots.{AnExpr, AStmt, TheStmts, TheExprs, AWord, AKey, AText, APlace, AKind, Missing, IsComputed, IsMethod, IsIn, IsOf}
use Rattle.js_reading.specs.Slots as slot
use Rattle.js_build.specs.declared.operand.Operand.{Operand}
use Rattle.js_build.specs.declared.piece.Piece.{Piece}
use Rattle.js_build.specs.declared.piece.Piece.TheVariants as p

abbrev pub plain_piece : Piece → slot.Piece
plain_piece (p.Expression x) = AnExpr x.level (plain_expr x.tree)
plain_piece (p.Statement s) = AStmt (plain_stmt s.tree)
plain_piece (p.Statements ss) = TheStmts (plain_stmts ss.items)
plain_piece (p.Expressions trailing xs) = TheExprs trailing (plain_exprs xs.items)
plain_piece (p.Word w l) = AWord w l
plain_piece (p.Key k l) = AKey (plain_property_key k.tree) l
plain_piece (p.Text s) = AText s
plain_piece (p.Place l) = APlace l
plain_piece (p.Kind k) = AKind k
plain_piece p.Missing = Missing
plain_piece p.Computed = IsComputed
plain_piece p.Method = IsMethod
plain_piece p.In = IsIn
plain_piece p.Of = IsOf

abbrev pub plain_pieces : List Piece → List slot.Piece
plain_pieces [] = []
plain_pieces (x ∷ xs) = plain_piece x ∷ plain_pieces xs

abbrev pub plain_operand : Operand → ℕ × tree.Expr
plain_operand x = (x.level, plain_expr x.tree)

-- the plain tree of a node of the code
abbrev pub expr_node : ExprNode → Loc → tree.Expr
expr_node node place = plain_expr_node node (Some place)

abbrev pub stmt_node : StmtNode → Loc → tree.Stmt
stmt_node node place = plain_stmt_node node (Some place)

-- what is made is this, unless memory is wanting
abbrev pub Makes : Result (Option Piece) AllocError → Option slot.Piece → Type 0
Makes result due = IfOk result (λ made. option_map plain_piece made ≡ due)

-- the same of an expression of this level, and of a statement
abbrev pub MakesExpr : Result (Option Piece) AllocError → ℕ → tree.Expr → Type 0
MakesExpr result level e = Makes result (Some (AnExpr level e))

abbrev pub MakesStmt : Result (Option Piece) AllocError → tree.Stmt → Type 0
MakesStmt result s = Makes result (Some (AStmt s))
