-- What `build` makes of the pieces of arrays, calls and members, by their shape.
use Rattle.std.proofs.Common.{◌≡◌, ℕ, Bool, List, [], ◌∷◌, Option, Some, None, refl}
use Rattle.js_terms.specs.declared.place.Loc.{Loc}
use Rattle.js_tree.specs.Plain.{Expr, Exprs}
use Rattle.js_tree.specs.Plain as tree
use Rattle.js_reading.specs.Slots.{Piece, AnExpr, AWord, Missing, TheExprs}
use Rattle.js_reading.specs.declared.form.Form.TheVariants as form
use Rattle.js_reading.specs.Makes.{build}
use Rattle.js_reading.specs.Productions.{member_level}
use Rattle.js_build.specs.CallShapes.{arguments_of, one_list, one_name}
use Rattle.js_build.specs.Parentheses.{first_list}
use Rattle.js_build.specs.Shapes.{first_expr, if_over, none_left, two_exprs}

abbrev pub list_alone : Option ((Bool × Exprs) × List Piece) → Option Exprs
list_alone None = None
list_alone (Some (x, ps)) = if_over (none_left ps) x.1

pub one_list_first : (ps : List Piece) → one_list ps ≡ list_alone (first_list ps)
one_list_first [] = refl
one_list_first (TheExprs t xs ∷ []) = refl
one_list_first (TheExprs t xs ∷ p ∷ ps) = refl
one_list_first (p ∷ ps) = refl

abbrev pub array_of : Loc → Option Exprs → Option Piece
array_of l None = None
array_of l (Some xs) = Some (AnExpr 22 (tree.ArrayLiteral (Some l) xs))

pub array_form : (l : Loc) (ps : List Piece) → build form.ArrayLiteral l ps ≡ array_of l (one_list ps)
array_form l [] = refl
array_form l (TheExprs t xs ∷ []) = refl
array_form l (TheExprs t xs ∷ p ∷ ps) = refl
array_form l (p ∷ ps) = refl

abbrev pub call_of : Loc → Expr → Option Exprs → Option Piece
call_of l e None = None
call_of l e (Some xs) = Some (AnExpr 20 (tree.Call (Some l) e xs))

abbrev pub call_after : Loc → Option ((ℕ × Expr) × List Piece) → Option Piece
call_after l None = None
call_after l (Some (x, ps)) = call_of l x.1 (one_list ps)

pub call_form : (l : Loc) (ps : List Piece) → build form.Call l ps ≡ call_after l (first_expr ps)
call_form l [] = refl
call_form l (AnExpr i x ∷ []) = refl
call_form l (AnExpr i x ∷ TheExprs t xs ∷ []) = refl
call_form l (AnExpr i x ∷ TheExprs t xs ∷ p ∷ ps) = refl
call_form l (AnExpr i x ∷ p ∷ ps) = refl
call_form l (p ∷ ps) = refl

abbrev pub new_of : Loc → Expr → Option (ℕ × Exprs) → Option Piece
new_of l e None = None
new_of l e (Some x) = Some (AnExpr x.0 (tree.New (Some l) e x.1))

abbrev pub new_after : Loc → Option ((ℕ × Expr) × List Piece) → Option Piece
new_after l None = None
new_after l (Some (x, ps)) = new_of l x.1 (arguments_of ps)

pub new_form : (l : Loc) (ps : List Piece) → build form.New l ps ≡ new_after l (first_expr ps)
new_form l [] = refl
new_form l (AnExpr i x ∷ []) = refl
new_form l (AnExpr i x ∷ Missing ∷ []) = refl
new_form l (AnExpr i x ∷ Missing ∷ p ∷ ps) = refl
new_form l (AnExpr i x ∷ TheExprs t xs ∷ []) = refl
new_form l (AnExpr i x ∷ TheExprs t xs ∷ p ∷ ps) = refl
new_form l (AnExpr i x ∷ p ∷ ps) = refl
new_form l (p ∷ ps) = refl

abbrev pub dot_of : Loc → ℕ × Expr → Option (List ℕ) → Option Piece
dot_of l x None = None
dot_of l x (Some w) = Some (AnExpr (member_level x.0) (tree.NamedMember (Some l) x.1 w))

abbrev pub dot_after : Loc → Option ((ℕ × Expr) × List Piece) → Option Piece
dot_after l None = None
dot_after l (Some (x, ps)) = dot_of l x (one_name ps)

pub dot_form : (l : Loc) (ps : List Piece) → build form.Dot l ps ≡ dot_after l (first_expr ps)
dot_form l [] = refl
dot_form l (AnExpr i x ∷ []) = refl
dot_form l (AnExpr i x ∷ AWord w m ∷ []) = refl
dot_form l (AnExpr i x ∷ AWord w m ∷ p ∷ ps) = refl
dot_form l (AnExpr i x ∷ p ∷ ps) = refl
dot_form l (p ∷ ps) = refl

abbrev pub member_of : Loc → Option ((ℕ × Expr) × (ℕ × Expr)) → Option Piece
member_of l None = None
member_of l (Some xs) = Some (AnExpr (member_level xs.0.0) (tree.ComputedMember (Some l) xs.0.1 xs.1.1))

pub member_form : (l : Loc) (ps : List Piece) → build form.Member l ps ≡ member_of l (two_exprs ps)
member_form l [] = refl
member_form l (AnExpr i x ∷ []) = refl
member_form l (AnExpr i x ∷ AnExpr j y ∷ []) = refl
member_form l (AnExpr i x ∷ AnExpr j y ∷ p ∷ ps) = refl
member_form l (AnExpr i x ∷ p ∷ ps) = refl
member_form l (p ∷ ps) = refl
