-- The shapes of pieces, by the expression that is first.
use Rattle.std.proofs.Common.{◌≡◌, ℕ, List, [], ◌∷◌, Option, Some, None, refl}
use Rattle.js_tree.specs.Plain.{Expr, Stmt}
use Rattle.js_reading.specs.Slots.{Piece, AnExpr, AStmt}
use Rattle.js_build.specs.Shapes.{expr_stmt, first_expr, first_stmt, if_over, none_left, one_expr, one_stmt, three_exprs, two_exprs}

abbrev pub alone : Option ((ℕ × Expr) × List Piece) → Option (ℕ × Expr)
alone None = None
alone (Some (x, ps)) = if_over (none_left ps) x

pub one_first : (ps : List Piece) → one_expr ps ≡ alone (first_expr ps)
one_first [] = refl
one_first (AnExpr i x ∷ []) = refl
one_first (AnExpr i x ∷ p ∷ ps) = refl
one_first (p ∷ ps) = refl

abbrev pub stmt_alone : Option (Stmt × List Piece) → Option Stmt
stmt_alone None = None
stmt_alone (Some (s, ps)) = if_over (none_left ps) s

pub one_stmt_first : (ps : List Piece) → one_stmt ps ≡ stmt_alone (first_stmt ps)
one_stmt_first [] = refl
one_stmt_first (AStmt s ∷ []) = refl
one_stmt_first (AStmt s ∷ p ∷ ps) = refl
one_stmt_first (p ∷ ps) = refl

abbrev pub paired : ℕ × Expr → Option (ℕ × Expr) → Option ((ℕ × Expr) × (ℕ × Expr))
paired x None = None
paired x (Some y) = Some (x, y)

abbrev pub and_one : Option ((ℕ × Expr) × List Piece) → Option ((ℕ × Expr) × (ℕ × Expr))
and_one None = None
and_one (Some (x, ps)) = paired x (one_expr ps)

pub two_first : (ps : List Piece) → two_exprs ps ≡ and_one (first_expr ps)
two_first [] = refl
two_first (AnExpr i x ∷ []) = refl
two_first (AnExpr i x ∷ AnExpr j y ∷ []) = refl
two_first (AnExpr i x ∷ AnExpr j y ∷ p ∷ ps) = refl
two_first (AnExpr i x ∷ p ∷ ps) = refl
two_first (p ∷ ps) = refl

abbrev pub before_two : ℕ × Expr → Option ((ℕ × Expr) × (ℕ × Expr)) → Option ((ℕ × Expr) × ((ℕ × Expr) × (ℕ × Expr)))
before_two x None = None
before_two x (Some ys) = Some (x, ys)

abbrev pub and_two : Option ((ℕ × Expr) × List Piece) → Option ((ℕ × Expr) × ((ℕ × Expr) × (ℕ × Expr)))
and_two None = None
and_two (Some (x, ps)) = before_two x (two_exprs ps)

pub three_first : (ps : List Piece) → three_exprs ps ≡ and_two (first_expr ps)
three_first [] = refl
three_first (AnExpr i x ∷ []) = refl
three_first (AnExpr i x ∷ AnExpr j y ∷ []) = refl
three_first (AnExpr i x ∷ AnExpr j y ∷ AnExpr k z ∷ []) = refl
three_first (AnExpr i x ∷ AnExpr j y ∷ AnExpr k z ∷ p ∷ ps) = refl
three_first (AnExpr i x ∷ AnExpr j y ∷ p ∷ ps) = refl
three_first (AnExpr i x ∷ p ∷ ps) = refl
three_first (p ∷ ps) = refl

abbrev pub before_stmt : ℕ × Expr → Option Stmt → Option ((ℕ × Expr) × Stmt)
before_stmt x None = None
before_stmt x (Some s) = Some (x, s)

abbrev pub and_stmt : Option ((ℕ × Expr) × List Piece) → Option ((ℕ × Expr) × Stmt)
and_stmt None = None
and_stmt (Some (x, ps)) = before_stmt x (one_stmt ps)

pub both_first : (ps : List Piece) → expr_stmt ps ≡ and_stmt (first_expr ps)
both_first [] = refl
both_first (AnExpr i x ∷ []) = refl
both_first (AnExpr i x ∷ AStmt s ∷ []) = refl
both_first (AnExpr i x ∷ AStmt s ∷ p ∷ ps) = refl
both_first (AnExpr i x ∷ p ∷ ps) = refl
both_first (p ∷ ps) = refl
