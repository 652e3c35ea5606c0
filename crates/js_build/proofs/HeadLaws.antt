-- The heads of `for` that declare variables.
use Rattle.std.proofs.Common.{◌≡◌, ℕ, Bool, true, false, List, [], ◌∷◌, Option, Some, None, refl, ap}
use Rattle.js_terms.specs.declared.operators.VariableKind.{VariableKind}
use Rattle.js_terms.specs.declared.place.Loc.{Loc}
use Rattle.js_tree.specs.Plain.{Declarators, no_declarator}
use Rattle.js_tree.specs.Plain as tree
use Rattle.js_reading.specs.Slots.{Piece, AKind, AnExpr, AStmt, AWord, IsIn, IsOf}
use Rattle.js_reading.specs.Makes.{bound, declarators_of, for_declared, for_of, for_parts, is_const}
use Rattle.js_build.specs.DeclaratorPieces.{settled}
use Rattle.js_build.specs.Fors.{each_of, first_each, first_word}
use Rattle.js_build.proofs.ForLaws.{for_bad_first}

-- a name after the declarators is none of the other parts
declared_settled : (l : Loc) (k : VariableKind) (o : Option (Declarators × List Piece)) → for_declared l k o ≡ for_declared l k (settled o)
declared_settled l k None = refl
declared_settled l k (Some (ds, [])) = refl
declared_settled l k (Some (ds, AWord w m ∷ ps)) = for_bad_first l (tree.InitDeclaration k ds) (AWord w m) ps refl
declared_settled l k (Some (ds, q ∷ ps)) = refl

bad_in : (l : Loc) (k : VariableKind) (b : Bool) (w : List ℕ) (m : Loc) (ps : List Piece) → for_declared l k (declarators_of b (AWord w m ∷ IsIn ∷ ps)) ≡ None
bad_in l k true w m ps = for_bad_first l (tree.InitDeclaration k no_declarator) (AWord w m) (IsIn ∷ ps) refl
bad_in l k false w m ps = for_bad_first l (tree.InitDeclaration k no_declarator) (AWord w m) (IsIn ∷ ps) refl

bad_of : (l : Loc) (k : VariableKind) (b : Bool) (w : List ℕ) (m : Loc) (ps : List Piece) → for_declared l k (declarators_of b (AWord w m ∷ IsOf ∷ ps)) ≡ None
bad_of l k true w m ps = for_bad_first l (tree.InitDeclaration k no_declarator) (AWord w m) (IsOf ∷ ps) refl
bad_of l k false w m ps = for_bad_first l (tree.InitDeclaration k no_declarator) (AWord w m) (IsOf ∷ ps) refl

kind_in : (l : Loc) (k : VariableKind) (w : List ℕ) (m : Loc) (ps : List Piece) → for_parts l (AKind k ∷ AWord w m ∷ IsIn ∷ ps) ≡ each_of false l (tree.TargetDeclaration k (bound w m)) ps
kind_in l k w m [] = bad_in l k (is_const k) w m []
kind_in l k w m (AnExpr i e ∷ []) = bad_in l k (is_const k) w m (AnExpr i e ∷ [])
kind_in l k w m (AnExpr i e ∷ AStmt s ∷ []) = refl
kind_in l k w m (AnExpr i e ∷ AStmt s ∷ p ∷ ps) = bad_in l k (is_const k) w m (AnExpr i e ∷ AStmt s ∷ p ∷ ps)
kind_in l k w m (AnExpr i e ∷ p ∷ ps) = bad_in l k (is_const k) w m (AnExpr i e ∷ p ∷ ps)
kind_in l k w m (p ∷ ps) = bad_in l k (is_const k) w m (p ∷ ps)

kind_of : (l : Loc) (k : VariableKind) (w : List ℕ) (m : Loc) (ps : List Piece) → for_parts l (AKind k ∷ AWord w m ∷ IsOf ∷ ps) ≡ each_of true l (tree.TargetDeclaration k (bound w m)) ps
kind_of l k w m [] = bad_of l k (is_const k) w m []
kind_of l k w m (AnExpr i e ∷ []) = bad_of l k (is_const k) w m (AnExpr i e ∷ [])
kind_of l k w m (AnExpr i e ∷ AStmt s ∷ []) = refl
kind_of l k w m (AnExpr i e ∷ AStmt s ∷ p ∷ ps) = bad_of l k (is_const k) w m (AnExpr i e ∷ AStmt s ∷ p ∷ ps)
kind_of l k w m (AnExpr i e ∷ p ∷ ps) = bad_of l k (is_const k) w m (AnExpr i e ∷ p ∷ ps)
kind_of l k w m (p ∷ ps) = bad_of l k (is_const k) w m (p ∷ ps)

-- after the first name

abbrev pub after_name : Loc → VariableKind → List ℕ → Loc → List Piece → Option (Bool × List Piece) → Option Piece
after_name l k w m ps None = for_declared l k (settled (declarators_of (is_const k) (AWord w m ∷ ps)))
after_name l k w m ps (Some found) = each_of found.0 l (tree.TargetDeclaration k (bound w m)) found.1

pub name_form : (l : Loc) (k : VariableKind) (w : List ℕ) (m : Loc) (ps : List Piece) → for_parts l (AKind k ∷ AWord w m ∷ ps) ≡ after_name l k w m ps (first_each ps)
name_form l k w m [] = declared_settled l k (declarators_of (is_const k) (AWord w m ∷ []))
name_form l k w m (IsIn ∷ ps) = kind_in l k w m ps
name_form l k w m (IsOf ∷ ps) = kind_of l k w m ps
name_form l k w m (p ∷ ps) = declared_settled l k (declarators_of (is_const k) (AWord w m ∷ p ∷ ps))

-- before it

abbrev pub after_kind : Loc → VariableKind → List Piece → Option ((List ℕ × Loc) × List Piece) → Option Piece
after_kind l k ps None = for_of l (tree.InitDeclaration k no_declarator) ps
after_kind l k ps (Some found) = for_parts l (AKind k ∷ AWord found.0.0 found.0.1 ∷ found.1)

abbrev names : Piece → Bool
names (AWord w m) = true
names p = false

none_declared : (b : Bool) (p : Piece) (ps : List Piece) → names p ≡ false → declarators_of b (p ∷ ps) ≡ Some (no_declarator, p ∷ ps)
none_declared true (AWord w m) ps h = cc
none_declared false (AWord w m) ps h = cc
none_declared true p ps h = refl
none_declared false p ps h = refl

none_left : (b : Bool) → declarators_of b [] ≡ Some (no_declarator, [])
none_left true = refl
none_left false = refl

pub kind_form : (l : Loc) (k : VariableKind) (ps : List Piece) → for_parts l (AKind k ∷ ps) ≡ after_kind l k ps (first_word ps)
kind_form l k [] = ap (for_declared l k) (none_left (is_const k))
kind_form l k (AWord w m ∷ ps) = refl
kind_form l k (p ∷ ps) = ap (for_declared l k) (none_declared (is_const k) p ps refl)
