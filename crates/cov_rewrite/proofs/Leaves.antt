-- What becomes of a leaf of a chain of logical operators.
use Rattle.std.proofs.Common.{◌≡◌, ◌+◌, ℕ, suc, Bool, true, false, length, Option, refl, ap, ◌∙◌, arith}
use Rattle.std.proofs.lemmas.List.{length-append}
use Rattle.js_terms.specs.declared.operators.LogicalOperator.{LogicalOperator}
use Rattle.js_terms.specs.declared.place.Loc.{Loc}
use Rattle.js_tree.specs.Hints.{Heed, Ignored, Heeding, leaf_paths}
use Rattle.js_tree.specs.Linked.{Counts}
use Rattle.js_terms.specs.Mark.{Mark}
use Rattle.js_tree.specs.Plain.{Expr, Logical, Parenthesized, Entered, Stmt, Directive, Block, VariableDeclaration, Empty, Labelled, FunctionDeclaration, EnteredStmt}
use Rattle.cov_rewritten.specs.Rewritten.{counted}
use Rattle.cov_rewrite.specs.Made as made

no : {A : Type 0} → false ≡ true → A
no e = absurd cc

pub leaf_counted : (c : Mark → Expr) (left : Heed) (b : Option ℕ) (path : ℕ) (e m : Expr) → made.is_leaf e ≡ true → made.leaf c left (made.Among b path) e m ≡ counted c (made.path_marks left b path) m
leaf_counted c left b path (Logical l o e f) m h = no h
leaf_counted c left b path (Parenthesized l e) m h = no h
leaf_counted c left b path (Entered n e) m h = leaf_counted c left b path e m h
leaf_counted c left b path e m h = refl

pub leaf_made : (c : Mark → Expr) (left : Heed) (b : Option ℕ) (path : ℕ) (e : Expr) (k : Counts) → made.is_leaf e ≡ true → made.made_expr c left (made.Among b path) e k ≡ made.made_expr c left made.Alone e k
leaf_made c left b path (Logical l o e f) k h = no h
leaf_made c left b path (Parenthesized l e) k h = no h
leaf_made c left b path (Entered n e) k h = leaf_made c left b path e k h
leaf_made c left b path e k h = refl

pub leaf_next : (left : Heed) (e : Expr) (k : Counts) → made.is_leaf e ≡ true → made.next_expr left true e k ≡ made.next_expr left false e k
leaf_next left (Logical l o e f) k h = no h
leaf_next left (Parenthesized l e) k h = no h
leaf_next left (Entered n e) k h = leaf_next left e k h
leaf_next left e k h = refl

one_more : (path : ℕ) → path + 1 ≡ suc path
one_more path = omega arith

none_more : (path : ℕ) → path + 0 ≡ path
none_more path = omega arith

pub leaf_past : (left : Heed) (path : ℕ) (e : Expr) → made.is_leaf e ≡ true → path + length (leaf_paths left e) ≡ made.past left path
leaf_past left path (Logical l o e f) h = no h
leaf_past left path (Parenthesized l e) h = no h
leaf_past left path (Entered n e) h = leaf_past left path e h
leaf_past Ignored path e h = none_more path
leaf_past (Heeding hints) path e h = one_more path

-- the leaves of one operand come before those of the other
pub chain_past : (left : Heed) (loc : Option Loc) (o : LogicalOperator) (e f : Expr) (path first last : ℕ) →
    first ≡ path + length (leaf_paths (made.left_in left e) e) → last ≡ first + length (leaf_paths (made.left_in left f) f) →
    last ≡ path + length (leaf_paths left (Logical loc o e f))
chain_past left loc o e f path first last p q =
    let both = length-append (leaf_paths (made.left_in left e) e) (leaf_paths (made.left_in left f) f) in
    omega (arith, p, q, both)

-- ---- a statement that is counted itself is the same wherever it stands

pub counted_before : (home : Bool) (left : Heed) (x : Stmt) (k : Counts) → made.is_counted x ≡ true → made.marks_before home left x k ≡ made.marks_before false left x k
counted_before home left (Directive l s) k h = no h
counted_before home left (Block l xs) k h = no h
counted_before home left (VariableDeclaration l v xs) k h = no h
counted_before home left (Empty l) k h = no h
counted_before home left (Labelled l n x) k h = no h
counted_before home left (FunctionDeclaration l n f) k h = no h
counted_before home left (EnteredStmt m x) k h = counted_before home left x k h
counted_before home left x k h = refl

pub counted_made : (c : Mark → Expr) (home : Bool) (left : Heed) (x : Stmt) (k : Counts) → made.is_counted x ≡ true → made.made_stmt c home left x k ≡ made.made_stmt c false left x k
counted_made c home left (Directive l s) k h = no h
counted_made c home left (Block l xs) k h = no h
counted_made c home left (VariableDeclaration l v xs) k h = no h
counted_made c home left (Empty l) k h = no h
counted_made c home left (Labelled l n x) k h = no h
counted_made c home left (FunctionDeclaration l n f) k h = no h
counted_made c home left (EnteredStmt m x) k h = counted_made c home left x k h
counted_made c home left x k h = refl
