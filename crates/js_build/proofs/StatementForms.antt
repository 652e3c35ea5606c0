-- What `build` makes of the pieces of a statement, by their shape.
use Rattle.std.proofs.Common.{◌≡◌, ℕ, List, [], ◌∷◌, Option, Some, None, refl}
use Rattle.js_terms.specs.declared.place.Loc.{Loc}
use Rattle.js_terms.specs.declared.words.Identifier.{Identifier}
use Rattle.js_tree.specs.Plain.{Expr, MaybeExpr, Stmt, Stmts, none_stmt, some_stmt}
use Rattle.js_tree.specs.Plain as tree
use Rattle.js_reading.specs.Slots.{Piece, AnExpr, AStmt, TheStmts, Missing}
use Rattle.js_reading.specs.declared.form.Form.TheVariants as form
use Rattle.js_reading.specs.Makes.{build}
use Rattle.js_build.specs.Fors.{first_maybe}
use Rattle.js_build.specs.Names.{identifier_of}
use Rattle.js_build.specs.Shapes.{else_of, expr_stmt, first_expr, first_stmt, first_stmts, if_over, none_left, one_expr, value_of}
use Rattle.js_build.proofs.Forms.{of_one, of_both}

pub expression_form : (l : Loc) (ps : List Piece) → build form.Expression l ps ≡ of_one (one_expr ps) (λ e. Some (AStmt (tree.Expression (Some l) e)))
expression_form l [] = refl
expression_form l (AnExpr i x ∷ []) = refl
expression_form l (AnExpr i x ∷ p ∷ ps) = refl
expression_form l (p ∷ ps) = refl

pub throw_form : (l : Loc) (ps : List Piece) → build form.Throw l ps ≡ of_one (one_expr ps) (λ e. Some (AStmt (tree.Throw (Some l) e)))
throw_form l [] = refl
throw_form l (AnExpr i x ∷ []) = refl
throw_form l (AnExpr i x ∷ p ∷ ps) = refl
throw_form l (p ∷ ps) = refl

pub while_form : (l : Loc) (ps : List Piece) → build form.While l ps ≡ of_both (expr_stmt ps) (λ c s. Some (AStmt (tree.While (Some l) c s)))
while_form l [] = refl
while_form l (AnExpr i x ∷ []) = refl
while_form l (AnExpr i x ∷ AStmt s ∷ []) = refl
while_form l (AnExpr i x ∷ AStmt s ∷ p ∷ ps) = refl
while_form l (AnExpr i x ∷ p ∷ ps) = refl
while_form l (p ∷ ps) = refl

abbrev pub labelled_piece : Loc → Option Identifier → Stmt → Option Piece
labelled_piece l None s = None
labelled_piece l (Some label) s = Some (AStmt (tree.Labelled (Some l) label s))

pub labelled_form : (l : Loc) (ps : List Piece) → build form.Labelled l ps ≡ of_both (expr_stmt ps) (λ e s. labelled_piece l (identifier_of e) s)
labelled_form l [] = refl
labelled_form l (AnExpr i (tree.IdentifierReference m w) ∷ []) = refl
labelled_form l (AnExpr i (tree.IdentifierReference m w) ∷ AStmt s ∷ []) = refl
labelled_form l (AnExpr i (tree.IdentifierReference m w) ∷ AStmt s ∷ p ∷ ps) = refl
labelled_form l (AnExpr i (tree.IdentifierReference m w) ∷ p ∷ ps) = refl
labelled_form l (AnExpr i x ∷ []) = refl
labelled_form l (AnExpr i x ∷ AStmt s ∷ []) = refl
labelled_form l (AnExpr i x ∷ AStmt s ∷ p ∷ ps) = refl
labelled_form l (AnExpr i x ∷ p ∷ ps) = refl
labelled_form l (p ∷ ps) = refl

-- by the statement or the statements that are first

abbrev pub block_after : Loc → Option (Stmts × List Piece) → Option Piece
block_after l None = None
block_after l (Some (ss, ps)) = if_over (none_left ps) (AStmt (tree.Block (Some l) ss))

pub block_form : (l : Loc) (ps : List Piece) → build form.Block l ps ≡ block_after l (first_stmts ps)
block_form l [] = refl
block_form l (TheStmts ss ∷ []) = refl
block_form l (TheStmts ss ∷ p ∷ ps) = refl
block_form l (p ∷ ps) = refl

abbrev pub do_after : Loc → Option (Stmt × List Piece) → Option Piece
do_after l None = None
do_after l (Some (s, ps)) = of_one (one_expr ps) (λ c. Some (AStmt (tree.DoWhile (Some l) s c)))

pub do_while_form : (l : Loc) (ps : List Piece) → build form.DoWhile l ps ≡ do_after l (first_stmt ps)
do_while_form l [] = refl
do_while_form l (AStmt s ∷ []) = refl
do_while_form l (AStmt s ∷ AnExpr i x ∷ []) = refl
do_while_form l (AStmt s ∷ AnExpr i x ∷ p ∷ ps) = refl
do_while_form l (AStmt s ∷ p ∷ ps) = refl
do_while_form l (p ∷ ps) = refl

-- `if`, by its parts

abbrev pub then_of : Loc → Expr → Stmt → Option (Option Stmt) → Option Piece
then_of l e s None = None
then_of l e s (Some None) = Some (AStmt (tree.If (Some l) e s none_stmt))
then_of l e s (Some (Some t)) = Some (AStmt (tree.If (Some l) e s (some_stmt t)))

pub then_form : (l : Loc) (i : ℕ) (e : Expr) (s : Stmt) (ps : List Piece) → build form.If l (AnExpr i e ∷ AStmt s ∷ ps) ≡ then_of l e s (else_of ps)
then_form l i e s [] = refl
then_form l i e s (Missing ∷ []) = refl
then_form l i e s (Missing ∷ p ∷ ps) = refl
then_form l i e s (AStmt t ∷ []) = refl
then_form l i e s (AStmt t ∷ p ∷ ps) = refl
then_form l i e s (p ∷ ps) = refl

abbrev pub if_then : Loc → ℕ × Expr → Option (Stmt × List Piece) → Option Piece
if_then l x None = None
if_then l x (Some y) = build form.If l (AnExpr x.0 x.1 ∷ AStmt y.0 ∷ y.1)

abbrev pub if_after : Loc → Option ((ℕ × Expr) × List Piece) → Option Piece
if_after l None = None
if_after l (Some (x, ps)) = if_then l x (first_stmt ps)

pub if_form : (l : Loc) (ps : List Piece) → build form.If l ps ≡ if_after l (first_expr ps)
if_form l [] = refl
if_form l (AnExpr i e ∷ []) = refl
if_form l (AnExpr i e ∷ AStmt s ∷ ps) = refl
if_form l (AnExpr i e ∷ p ∷ ps) = refl
if_form l (p ∷ ps) = refl

-- `return`, by its value

abbrev pub value_alone : Option (MaybeExpr × List Piece) → Option MaybeExpr
value_alone None = None
value_alone (Some (x, ps)) = if_over (none_left ps) x

pub value_first : (ps : List Piece) → value_of ps ≡ value_alone (first_maybe ps)
value_first [] = refl
value_first (Missing ∷ []) = refl
value_first (Missing ∷ p ∷ ps) = refl
value_first (AnExpr i x ∷ []) = refl
value_first (AnExpr i x ∷ p ∷ ps) = refl
value_first (p ∷ ps) = refl

abbrev pub return_of : Loc → Option MaybeExpr → Option Piece
return_of l None = None
return_of l (Some x) = Some (AStmt (tree.Return (Some l) x))

pub return_form : (l : Loc) (ps : List Piece) → build form.Return l ps ≡ return_of l (value_of ps)
return_form l [] = refl
return_form l (Missing ∷ []) = refl
return_form l (Missing ∷ p ∷ ps) = refl
return_form l (AnExpr i x ∷ []) = refl
return_form l (AnExpr i x ∷ p ∷ ps) = refl
return_form l (p ∷ ps) = refl
