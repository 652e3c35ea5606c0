-- The pieces of productions that have a fixed number of parts.
use Rattle.std.specs.Prelude.{ℕ, Bool, true, false, List, [], ◌∷◌, Option, Some, None}
use Rattle.js_tree.specs.Plain.{Expr, MaybeExpr, none_expr, some_expr, Stmt, Stmts}
use Rattle.js_tree.specs.Tree.{plain_stmt, plain_stmts}
use Rattle.js_reading.specs.Slots.{Piece, AnExpr, AStmt, TheStmts, Missing}
use Rattle.js_build.specs.declared.operand.Body.{Body}
use Rattle.js_build.specs.declared.operand.Operand.{Operand}
use Rattle.js_build.specs.declared.operand.Statements.{Statements}
use Rattle.js_build.specs.View.{plain_operand}

abbrev pub one_expr : List Piece → Option (ℕ × Expr)
one_expr (AnExpr i x ∷ []) = Some (i, x)
one_expr ps = None

abbrev pub two_exprs : List Piece → Option ((ℕ × Expr) × (ℕ × Expr))
two_exprs (AnExpr i x ∷ AnExpr j y ∷ []) = Some ((i, x), (j, y))
two_exprs ps = None

abbrev pub three_exprs : List Piece → Option ((ℕ × Expr) × ((ℕ × Expr) × (ℕ × Expr)))
three_exprs (AnExpr i x ∷ AnExpr j y ∷ AnExpr k z ∷ []) = Some ((i, x), ((j, y), (k, z)))
three_exprs ps = None

abbrev pub expr_stmt : List Piece → Option ((ℕ × Expr) × Stmt)
expr_stmt (AnExpr i x ∷ AStmt s ∷ []) = Some ((i, x), s)
expr_stmt ps = None

abbrev pub one_stmt : List Piece → Option Stmt
one_stmt (AStmt s ∷ []) = Some s
one_stmt ps = None

-- the expression that is first, and the pieces after it
abbrev pub first_expr : List Piece → Option ((ℕ × Expr) × List Piece)
first_expr (AnExpr i x ∷ ps) = Some ((i, x), ps)
first_expr ps = None

-- the same of a statement, and of statements
abbrev pub first_stmt : List Piece → Option (Stmt × List Piece)
first_stmt (AStmt s ∷ ps) = Some (s, ps)
first_stmt ps = None

abbrev pub first_stmts : List Piece → Option (Stmts × List Piece)
first_stmts (TheStmts ss ∷ ps) = Some (ss, ps)
first_stmts ps = None

-- that no piece is left
abbrev pub none_left : List Piece → Bool
none_left [] = true
none_left (p ∷ ps) = false

-- what is found, if so
abbrev pub if_over : {A : Type 0} → Bool → A → Option A
if_over true x = Some x
if_over false x = None

-- a statement that may be left out
abbrev pub else_of : List Piece → Option (Option Stmt)
else_of (Missing ∷ ps) = if_over (none_left ps) None
else_of (AStmt s ∷ ps) = if_over (none_left ps) (Some s)
else_of ps = None

-- an expression that may be left out
abbrev pub value_of : List Piece → Option MaybeExpr
value_of (Missing ∷ []) = Some none_expr
value_of (AnExpr i x ∷ []) = Some (some_expr x)
value_of ps = None

-- what the code finds

abbrev pub operand_if : Option Operand → Option (ℕ × Expr)
operand_if None = None
operand_if (Some x) = Some (plain_operand x)

abbrev pub operands : Option (Operand × Operand) → Option ((ℕ × Expr) × (ℕ × Expr))
operands None = None
operands (Some xs) = Some (plain_operand xs.0, plain_operand xs.1)

abbrev pub operands_of_three : Option (Operand × Operand × Operand) → Option ((ℕ × Expr) × ((ℕ × Expr) × (ℕ × Expr)))
operands_of_three None = None
operands_of_three (Some (x, y, z)) = Some (plain_operand x, (plain_operand y, plain_operand z))

abbrev pub operand_body : Option (Operand × Body) → Option ((ℕ × Expr) × Stmt)
operand_body None = None
operand_body (Some xs) = Some (plain_operand xs.0, plain_stmt xs.1.tree)

abbrev pub stmt_if : Option Body → Option Stmt
stmt_if None = None
stmt_if (Some s) = Some (plain_stmt s.tree)

abbrev pub expr_taken : Option Operand → List Piece → Option ((ℕ × Expr) × List Piece)
expr_taken None ps = None
expr_taken (Some x) ps = Some (plain_operand x, ps)

abbrev pub stmt_taken : Option Body → List Piece → Option (Stmt × List Piece)
stmt_taken None ps = None
stmt_taken (Some s) ps = Some (plain_stmt s.tree, ps)

abbrev pub stmts_taken : Option Statements → List Piece → Option (Stmts × List Piece)
stmts_taken None ps = None
stmts_taken (Some ss) ps = Some (plain_stmts ss.items, ps)

abbrev pub else_view : Option (Option Body) → Option (Option Stmt)
else_view None = None
else_view (Some x) = Some (stmt_if x)
