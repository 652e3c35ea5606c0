-- Lists with one more at the end, and their heights.
use Rattle.std.proofs.Common.{◌≡◌, ◌≤◌, ℕ, ◌+◌, max, Option, refl, sym, ◌∙◌, arith}
use Rattle.std.proofs.lemmas.Bool.Decides.{nat_tests}
use Rattle.js_terms.specs.declared.place.Loc.{Loc}
use Rattle.js_tree.specs.Plain as tree
use Rattle.js_tree.specs.Plain.{Expr, Exprs, no_expr, more_expr, push_exprs, Stmt, Stmts, no_stmt, more_stmt, push_stmts}
use Rattle.js_tree.specs.Height.{height_expr, height_exprs, height_stmt, height_stmts}
use Rattle.js_reading.specs.Makes.{comma_of, loc_of}
use Rattle.js_build.specs.Growing.{joined_more}
use Rattle.js_build.specs.Measures.{height_joined}

pub max_push_stmts : (xs : Stmts) (a : Stmt) → height_stmts (push_stmts xs a) ≡ max (height_stmt a) (height_stmts xs)
max_push_stmts no_stmt a = omega arith
max_push_stmts (more_stmt x xs) a = let e = max_push_stmts xs a in omega arith

pub max_push_exprs : (xs : Exprs) (a : Expr) → height_exprs (push_exprs xs a) ≡ max (height_expr a) (height_exprs xs)
max_push_exprs no_expr a = omega arith
max_push_exprs (more_expr x xs) a = let e = max_push_exprs xs a in omega arith

comma_push : (loc : Expr → Option Loc) (e : Expr) (es : Exprs) (x : Expr) → height_expr (comma_of loc e (push_exprs es x)) ≡ max (height_expr (comma_of loc e es)) (height_expr x) + 1
comma_push loc e no_expr x = refl
comma_push loc e (more_expr y ys) x = comma_push loc _ ys x

height_some : (e : Expr) → 1 ≤ height_expr e
height_some (tree.FunctionExpression l n (tree.MakeFunction k ps body)) = omega arith
height_some (tree.Entered m x) = height_some x
height_some e = omega arith

above_none : (j h : ℕ) → 1 ≤ j → joined_more j h ≡ max j h + 1
above_none j h p = grind (arith, nat_tests)

pub joined_push : (xs : Exprs) (x : Expr) → height_joined (push_exprs xs x) ≡ joined_more (height_joined xs) (height_expr x)
joined_push no_expr x = refl
joined_push (more_expr e es) x = comma_push loc_of e es x ∙ sym (above_none (height_expr (comma_of loc_of e es)) (height_expr x) (height_some (comma_of loc_of e es)))

pub ruleset growing_rules = (max_push_exprs, joined_push)
