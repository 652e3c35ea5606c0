-- What `build` makes of the pieces of a production, by their shape.
use Rattle.std.proofs.Common.{◌≡◌, ℕ, List, [], ◌∷◌, Option, Some, None, if◌then◌else◌, refl}
use Rattle.js_terms.specs.declared.operators.AssignmentOperator.{AssignmentOperator}
use Rattle.js_terms.specs.declared.operators.BinaryOperator.{BinaryOperator}
use Rattle.js_terms.specs.declared.operators.LogicalOperator.{LogicalOperator}
use Rattle.js_terms.specs.declared.operators.LogicalOperator.TheVariants as logic
use Rattle.js_terms.specs.declared.operators.UnaryOperator.{UnaryOperator}
use Rattle.js_terms.specs.declared.operators.UpdateOperator.{UpdateOperator}
use Rattle.js_terms.specs.declared.place.Loc.{Loc}
use Rattle.js_tree.specs.Plain.{Expr, Stmt}
use Rattle.js_tree.specs.Plain as tree
use Rattle.js_reading.specs.Level.{binary_level, logical_level}
use Rattle.js_reading.specs.Slots.{Piece, AnExpr}
use Rattle.js_reading.specs.declared.form.Form.TheVariants as form
use Rattle.js_reading.specs.Makes.{build, is_target}
use Rattle.js_build.specs.Mixed.{is_mixed}
use Rattle.js_build.specs.Shapes.{one_expr, two_exprs, three_exprs}

abbrev pub of_one : Option (ℕ × Expr) → (Expr → Option Piece) → Option Piece
of_one None make = None
of_one (Some x) make = make x.1

abbrev pub of_two : Option ((ℕ × Expr) × (ℕ × Expr)) → (Expr → Expr → Option Piece) → Option Piece
of_two None make = None
of_two (Some xs) make = make xs.0.1 xs.1.1

abbrev pub of_three : Option ((ℕ × Expr) × ((ℕ × Expr) × (ℕ × Expr))) → (Expr → Expr → Expr → Option Piece) → Option Piece
of_three None make = None
of_three (Some xs) make = make xs.0.1 xs.1.0.1 xs.1.1.1

abbrev pub of_both : Option ((ℕ × Expr) × Stmt) → (Expr → Stmt → Option Piece) → Option Piece
of_both None make = None
of_both (Some xs) make = make xs.0.1 xs.1

pub postfix_form : (o : UpdateOperator) (l : Loc) (ps : List Piece) → build (form.Postfix o) l ps ≡ of_one (one_expr ps) (λ e. if is_target e then Some (AnExpr 17 (tree.PostfixUpdate (Some l) o e)) else None)
postfix_form o l [] = refl
postfix_form o l (AnExpr i x ∷ []) = refl
postfix_form o l (AnExpr i x ∷ p ∷ ps) = refl
postfix_form o l (p ∷ ps) = refl

pub prefix_update_form : (o : UpdateOperator) (l : Loc) (ps : List Piece) → build (form.PrefixUpdate o) l ps ≡ of_one (one_expr ps) (λ e. if is_target e then Some (AnExpr 17 (tree.PrefixUpdate (Some l) o e)) else None)
prefix_update_form o l [] = refl
prefix_update_form o l (AnExpr i x ∷ []) = refl
prefix_update_form o l (AnExpr i x ∷ p ∷ ps) = refl
prefix_update_form o l (p ∷ ps) = refl

pub unary_form : (o : UnaryOperator) (l : Loc) (ps : List Piece) → build (form.Unary o) l ps ≡ of_one (one_expr ps) (λ e. Some (AnExpr 16 (tree.Unary (Some l) o e)))
unary_form o l [] = refl
unary_form o l (AnExpr i x ∷ []) = refl
unary_form o l (AnExpr i x ∷ p ∷ ps) = refl
unary_form o l (p ∷ ps) = refl

pub binary_form : (o : BinaryOperator) (l : Loc) (ps : List Piece) → build (form.Binary o) l ps ≡ of_two (two_exprs ps) (λ x y. Some (AnExpr (binary_level o) (tree.Binary (Some l) o x y)))
binary_form o l [] = refl
binary_form o l (AnExpr i x ∷ []) = refl
binary_form o l (AnExpr i x ∷ AnExpr j y ∷ []) = refl
binary_form o l (AnExpr i x ∷ AnExpr j y ∷ p ∷ ps) = refl
binary_form o l (AnExpr i x ∷ p ∷ ps) = refl
binary_form o l (p ∷ ps) = refl

pub logical_form : (o : LogicalOperator) (l : Loc) (ps : List Piece) → build (form.Logical o) l ps ≡ of_two (two_exprs ps) (λ x y. if is_mixed o x then None else Some (AnExpr (logical_level o) (tree.Logical (Some l) o x y)))
logical_form logic.Coalesce l [] = refl
logical_form logic.Coalesce l (AnExpr i x ∷ []) = refl
logical_form logic.Coalesce l (AnExpr i x ∷ AnExpr j y ∷ []) = refl
logical_form logic.Coalesce l (AnExpr i x ∷ AnExpr j y ∷ p ∷ ps) = refl
logical_form logic.Coalesce l (AnExpr i x ∷ p ∷ ps) = refl
logical_form logic.Coalesce l (p ∷ ps) = refl
logical_form o l [] = refl
logical_form o l (AnExpr i x ∷ []) = refl
logical_form o l (AnExpr i x ∷ AnExpr j y ∷ []) = refl
logical_form o l (AnExpr i x ∷ AnExpr j y ∷ p ∷ ps) = refl
logical_form o l (AnExpr i x ∷ p ∷ ps) = refl
logical_form o l (p ∷ ps) = refl

pub conditional_form : (l : Loc) (ps : List Piece) → build form.Conditional l ps ≡ of_three (three_exprs ps) (λ c x y. Some (AnExpr 3 (tree.Conditional (Some l) c x y)))
conditional_form l [] = refl
conditional_form l (AnExpr i x ∷ []) = refl
conditional_form l (AnExpr i x ∷ AnExpr j y ∷ []) = refl
conditional_form l (AnExpr i x ∷ AnExpr j y ∷ AnExpr k z ∷ []) = refl
conditional_form l (AnExpr i x ∷ AnExpr j y ∷ AnExpr k z ∷ p ∷ ps) = refl
conditional_form l (AnExpr i x ∷ AnExpr j y ∷ p ∷ ps) = refl
conditional_form l (AnExpr i x ∷ p ∷ ps) = refl
conditional_form l (p ∷ ps) = refl

pub assignment_form : (o : AssignmentOperator) (l : Loc) (ps : List Piece) → build (form.Assignment o) l ps ≡ of_two (two_exprs ps) (λ x v. if is_target x then Some (AnExpr 2 (tree.Assignment (Some l) o x v)) else None)
assignment_form o l [] = refl
assignment_form o l (AnExpr i x ∷ []) = refl
assignment_form o l (AnExpr i x ∷ AnExpr j y ∷ []) = refl
assignment_form o l (AnExpr i x ∷ AnExpr j y ∷ p ∷ ps) = refl
assignment_form o l (AnExpr i x ∷ p ∷ ps) = refl
assignment_form o l (p ∷ ps) = refl

pub comma_form : (l : Loc) (ps : List Piece) → build form.Comma l ps ≡ of_two (two_exprs ps) (λ x y. Some (AnExpr 1 (tree.Comma (Some l) x y)))
comma_form l [] = refl
comma_form l (AnExpr i x ∷ []) = refl
comma_form l (AnExpr i x ∷ AnExpr j y ∷ []) = refl
comma_form l (AnExpr i x ∷ AnExpr j y ∷ p ∷ ps) = refl
comma_form l (AnExpr i x ∷ p ∷ ps) = refl
comma_form l (p ∷ ps) = refl
