-- What `build` makes of parentheses and what stands after them.
use Rattle.std.proofs.Common.{◌≡◌, Bool, true, false, List, [], ◌∷◌, Option, Some, None, refl, ◌∙◌}
use Rattle.js_terms.specs.declared.place.Loc.{Loc}
use Rattle.js_tree.specs.Plain.{Expr, Exprs, no_expr, more_expr}
use Rattle.js_tree.specs.Plain as tree
use Rattle.js_reading.specs.Slots.{Piece, AnExpr, APlace, Missing, TheExprs}
use Rattle.js_reading.specs.declared.form.Form.TheVariants as form
use Rattle.js_reading.specs.Makes.{build, comma_of, loc_of, params_of}
use Rattle.js_build.specs.Parentheses.{after_list, both, first_list, joined, pair, parenthesized}
use Rattle.js_build.specs.Shapes.{if_over, none_left}
use Rattle.js_build.proofs.ArrowLaws.{arrow_without}

-- ---- commas

step_at : (loc : Expr → Option Loc) (e x : Expr) (xs : Exprs) (l m : Option Loc) → loc e ≡ l → loc x ≡ m → comma_of loc e (more_expr x xs) ≡ comma_of loc (tree.Comma (both l m) e x) xs
step_at loc e x xs (Some l) (Some m) p q = rw (p, q)
step_at loc e x xs (Some l) None p q = rw (p, q)
step_at loc e x xs None (Some m) p q = rw p
step_at loc e x xs None None p q = rw p

comma_step : (e x : Expr) (xs : Exprs) → comma_of loc_of e (more_expr x xs) ≡ comma_of loc_of (pair e x) xs
comma_step e x xs = step_at loc_of e x xs (loc_of e) (loc_of x) refl refl

pub joined_is : (e : Expr) (es : Exprs) → comma_of loc_of e es ≡ joined e es
joined_is e no_expr = refl
joined_is e (more_expr x xs) = comma_step e x xs ∙ joined_is (pair e x) xs

-- ---- what stands after the items

listed : (l : Loc) (t : Bool) (xs : Exprs) (ps : List Piece) → build form.Parentheses l (TheExprs t xs ∷ ps) ≡ after_list l t xs ps
listed l true no_expr [] = refl
listed l true (more_expr e es) [] = refl
listed l false no_expr [] = refl
listed l false (more_expr e es) [] = refl
listed l true no_expr (Missing ∷ []) = refl
listed l true no_expr (Missing ∷ p ∷ ps) = refl
listed l true (more_expr e es) (Missing ∷ []) = arrow_without l (params_of (more_expr e es))
listed l true (more_expr e es) (Missing ∷ p ∷ ps) = arrow_without l (params_of (more_expr e es))
listed l false no_expr (Missing ∷ []) = refl
listed l false no_expr (Missing ∷ p ∷ ps) = refl
listed l false (more_expr e es) (Missing ∷ []) = refl
listed l false (more_expr e es) (Missing ∷ p ∷ ps) = arrow_without l (params_of (more_expr e es))
listed l true no_expr (AnExpr i x ∷ ps) = refl
listed l true (more_expr e es) (AnExpr i x ∷ ps) = refl
listed l false no_expr (AnExpr i x ∷ ps) = refl
listed l false (more_expr e es) (AnExpr i x ∷ ps) = refl
listed l true no_expr (APlace m ∷ ps) = refl
listed l true (more_expr e es) (APlace m ∷ ps) = refl
listed l false no_expr (APlace m ∷ ps) = refl
listed l false (more_expr e es) (APlace m ∷ ps) = refl
listed l true no_expr (p ∷ ps) = refl
listed l true (more_expr e es) (p ∷ ps) = arrow_without l (params_of (more_expr e es))
listed l false no_expr (p ∷ ps) = refl
listed l false (more_expr e es) (p ∷ ps) = arrow_without l (params_of (more_expr e es))

abbrev pub parentheses_after : Loc → Option ((Bool × Exprs) × List Piece) → Option Piece
parentheses_after l None = None
parentheses_after l (Some (x, ps)) = after_list l x.0 x.1 ps

pub parentheses_form : (l : Loc) (ps : List Piece) → build form.Parentheses l ps ≡ parentheses_after l (first_list ps)
parentheses_form l [] = refl
parentheses_form l (TheExprs t xs ∷ ps) = listed l t xs ps
parentheses_form l (p ∷ ps) = refl

-- ---- parentheses that are no arrow's

pub trailing_none : (l : Loc) (t : Bool) (xs : Exprs) (ps : List Piece) → t ≡ true → parenthesized l t xs ps ≡ None
trailing_none l t xs ps p = rw p

pub empty_none : (l : Loc) (t : Bool) (xs : Exprs) (ps : List Piece) → t ≡ false → xs ≡ no_expr → parenthesized l t xs ps ≡ None
empty_none l t xs ps p q = rw (p, q)

pub enclosed : (l : Loc) (t : Bool) (xs : Exprs) (e : Expr) (es : Exprs) (ps : List Piece) (b : Bool) → t ≡ false → xs ≡ more_expr e es → b ≡ none_left ps → parenthesized l t xs ps ≡ if_over b (AnExpr 21 (tree.Parenthesized (Some l) (comma_of loc_of e es)))
enclosed l t xs e es ps b p q r = rw (p, q, r)
