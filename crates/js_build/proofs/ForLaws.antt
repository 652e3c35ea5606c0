-- The parts of a `for`, read from the front.
use Rattle.std.proofs.Common.{◌≡◌, ℕ, Bool, true, false, not, ◌&&◌, List, [], ◌∷◌, Option, Some, None, if◌then◌else◌, refl, ap, sym, ◌∙◌}
use Rattle.js_terms.specs.declared.place.Loc.{Loc}
use Rattle.js_tree.specs.Plain.{Expr, Stmt, MaybeExpr, none_expr, some_expr}
use Rattle.js_tree.specs.Plain as tree
use Rattle.js_reading.specs.Slots.{Piece, AnExpr, AStmt, IsIn, IsOf, Missing}
use Rattle.js_reading.specs.Makes.{for_of, for_parts, for_with, is_async, is_target, maybe}
use Rattle.js_build.specs.DeclaratorPieces.{cons_if}
use Rattle.js_build.specs.Fors.{each_of, first_each, first_maybe, guarded, may_take, maybe_of}
use Rattle.js_build.specs.Shapes.{one_stmt}
use Rattle.js_build.specs.View.{plain_piece}
use Rattle.js_build.specs.declared.piece.Piece as code

-- ---- three parts

-- after the first part: the second, the third and the body
abbrev pub after_update : Loc → tree.ForInit → MaybeExpr → MaybeExpr → Option Stmt → Option Piece
after_update l x a b None = None
after_update l x a b (Some s) = Some (AStmt (tree.For (Some l) x a b s))

abbrev pub after_test : Loc → tree.ForInit → MaybeExpr → Option (MaybeExpr × List Piece) → Option Piece
after_test l x a None = None
after_test l x a (Some found) = after_update l x a found.0 (one_stmt found.1)

abbrev pub after_init : Loc → tree.ForInit → Option MaybeExpr → List Piece → Option Piece
after_init l x None ps = None
after_init l x (Some a) ps = after_test l x a (first_maybe ps)

-- the same, of all three at once
abbrev parts_of : Loc → tree.ForInit → Option MaybeExpr → Option MaybeExpr → Option Stmt → Option Piece
parts_of l x a b None = None
parts_of l x a b (Some s) = for_with l x s a b

for_two : (l : Loc) (x : tree.ForInit) (p q : Piece) (ps : List Piece) → for_of l x (p ∷ q ∷ ps) ≡ parts_of l x (maybe p) (maybe q) (one_stmt ps)
for_two l x p q [] = refl
for_two l x p q (AStmt s ∷ []) = refl
for_two l x p q (AStmt s ∷ r ∷ rs) = refl
for_two l x p q (r ∷ rs) = refl

no_test : (l : Loc) (x : tree.ForInit) (b : Option MaybeExpr) (s : Option Stmt) → parts_of l x None b s ≡ None
no_test l x b None = refl
no_test l x None (Some s) = refl
no_test l x (Some y) (Some s) = refl

no_update : (l : Loc) (x : tree.ForInit) (a : MaybeExpr) (s : Option Stmt) → parts_of l x (Some a) None s ≡ None
no_update l x a None = refl
no_update l x a (Some s) = refl

both_there : (l : Loc) (x : tree.ForInit) (a b : MaybeExpr) (s : Option Stmt) → parts_of l x (Some a) (Some b) s ≡ after_update l x a b s
both_there l x a b None = refl
both_there l x a b (Some s) = refl

parts_read : (l : Loc) (x : tree.ForInit) (a : Option MaybeExpr) (q : Piece) (ps : List Piece) → parts_of l x a (maybe q) (one_stmt ps) ≡ after_init l x a (q ∷ ps)
parts_read l x None q ps = no_test l x (maybe q) (one_stmt ps)
parts_read l x (Some a) Missing ps = both_there l x a none_expr (one_stmt ps)
parts_read l x (Some a) (AnExpr i e) ps = both_there l x a (some_expr e) (one_stmt ps)
parts_read l x (Some a) q ps = no_update l x a (one_stmt ps)

no_more : (l : Loc) (x : tree.ForInit) (a : Option MaybeExpr) → after_init l x a [] ≡ None
no_more l x None = refl
no_more l x (Some a) = refl

rest_read : (l : Loc) (x : tree.ForInit) (p : Piece) (ps : List Piece) → for_of l x (p ∷ ps) ≡ after_init l x (maybe p) ps
rest_read l x p [] = sym (no_more l x (maybe p))
rest_read l x p (q ∷ ps) = for_two l x p q ps ∙ parts_read l x (maybe p) q ps

pub rest_form : (l : Loc) (x : tree.ForInit) (y : Option code.Piece) (ps : List Piece) → for_of l x (cons_if y ps) ≡ after_init l x (maybe_of y) ps
rest_form l x None ps = refl
rest_form l x (Some y) ps = rest_read l x (plain_piece y) ps

pub for_bad_first : (l : Loc) (x : tree.ForInit) (p : Piece) (ps : List Piece) → maybe p ≡ None → for_of l x (p ∷ ps) ≡ None
for_bad_first l x p ps h = rest_read l x p ps ∙ ap (λ a. after_init l x a ps) h

-- ---- after an expression

guarded_none : (b : Bool) → guarded b None ≡ None
guarded_none true = refl
guarded_none false = refl

guarded_if : (b : Bool) (o : Option Piece) → (if b then o else None) ≡ guarded b o
guarded_if true o = refl
guarded_if false o = refl

bad_in : (l : Loc) (x : Expr) (ps : List Piece) → for_of l (tree.InitExpression x) (IsIn ∷ ps) ≡ guarded (may_take false x) None
bad_in l x ps = for_bad_first l (tree.InitExpression x) IsIn ps refl ∙ sym (guarded_none (may_take false x))

bad_of : (l : Loc) (x : Expr) (ps : List Piece) → for_of l (tree.InitExpression x) (IsOf ∷ ps) ≡ guarded (may_take true x) None
bad_of l x ps = for_bad_first l (tree.InitExpression x) IsOf ps refl ∙ sym (guarded_none (may_take true x))

expression_in : (l : Loc) (j : ℕ) (x : Expr) (ps : List Piece) → for_parts l (AnExpr j x ∷ IsIn ∷ ps) ≡ guarded (may_take false x) (each_of false l (tree.TargetExpression x) ps)
expression_in l j x [] = bad_in l x []
expression_in l j x (AnExpr i e ∷ []) = bad_in l x (AnExpr i e ∷ [])
expression_in l j x (AnExpr i e ∷ AStmt s ∷ []) = guarded_if (is_target x) (Some (AStmt (tree.ForIn (Some l) (tree.TargetExpression x) e s)))
expression_in l j x (AnExpr i e ∷ AStmt s ∷ p ∷ ps) = bad_in l x (AnExpr i e ∷ AStmt s ∷ p ∷ ps)
expression_in l j x (AnExpr i e ∷ p ∷ ps) = bad_in l x (AnExpr i e ∷ p ∷ ps)
expression_in l j x (p ∷ ps) = bad_in l x (p ∷ ps)

expression_of : (l : Loc) (j : ℕ) (x : Expr) (ps : List Piece) → for_parts l (AnExpr j x ∷ IsOf ∷ ps) ≡ guarded (may_take true x) (each_of true l (tree.TargetExpression x) ps)
expression_of l j x [] = bad_of l x []
expression_of l j x (AnExpr i e ∷ []) = bad_of l x (AnExpr i e ∷ [])
expression_of l j x (AnExpr i e ∷ AStmt s ∷ []) = guarded_if (is_target x && not (is_async x)) (Some (AStmt (tree.ForOf (Some l) (tree.TargetExpression x) e s)))
expression_of l j x (AnExpr i e ∷ AStmt s ∷ p ∷ ps) = bad_of l x (AnExpr i e ∷ AStmt s ∷ p ∷ ps)
expression_of l j x (AnExpr i e ∷ p ∷ ps) = bad_of l x (AnExpr i e ∷ p ∷ ps)
expression_of l j x (p ∷ ps) = bad_of l x (p ∷ ps)

abbrev pub after_expression : Loc → Expr → List Piece → Option (Bool × List Piece) → Option Piece
after_expression l x ps None = for_of l (tree.InitExpression x) ps
after_expression l x ps (Some found) = guarded (may_take found.0 x) (each_of found.0 l (tree.TargetExpression x) found.1)

pub expression_form : (l : Loc) (j : ℕ) (x : Expr) (ps : List Piece) → for_parts l (AnExpr j x ∷ ps) ≡ after_expression l x ps (first_each ps)
expression_form l j x [] = refl
expression_form l j x (IsIn ∷ ps) = expression_in l j x ps
expression_form l j x (IsOf ∷ ps) = expression_of l j x ps
expression_form l j x (p ∷ ps) = refl

-- `in` or `of` stands next
pub expression_each : (l : Loc) (j : ℕ) (x : Expr) (ps : List Piece) (of : Bool) (rest : List Piece) → first_each ps ≡ Some (of, rest) → for_parts l (AnExpr j x ∷ ps) ≡ guarded (may_take of x) (each_of of l (tree.TargetExpression x) rest)
expression_each l j x ps of rest h = expression_form l j x ps ∙ ap (after_expression l x ps) h
