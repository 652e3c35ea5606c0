-- How a height is held: its parts may be held first.
use Rattle.std.proofs.Common.{◌≡◌, ◌∙◌, ℕ, ◌+◌, ◌-◌, ◌^◌, max, min, Some, None, arith, refl, ap}
use Rattle.js_tree.proofs.Equations.{tree_rules, param_made, expr_if_none, expr_if_some}
use Rattle.js_height.specs.private.Held.{held}
use Rattle.js_tree.specs.Height.{height_expr, height_param, height_pattern}
use Rattle.js_tree.specs.Plain as P
use Rattle.js_tree.specs.Tree.{plain_expr, plain_expr_if, plain_param, plain_pattern}
use Rattle.js_tree.specs.declared.tree.Expr.{Expr}
use Rattle.js_tree.specs.declared.tree.Param.{Param}
use Rattle.js_tree.specs.declared.tree.ConciseBody.TheViews.{out-Param}

pub held_zero : held 0 ≡ 0
unfolding held
held_zero = refl

pub held_one : held 1 ≡ 1
unfolding held
held_one = refl

pub held_two : held 2 ≡ 2
unfolding held
held_two = refl

pub held_more : (height : ℕ) → held (height + 1) ≡ min (held height + 1) (2 ^ 64 - 1)
unfolding held
held_more height = omega arith

pub held_max : (a b : ℕ) → held (max a b) ≡ max (held a) (held b)
unfolding held
held_max a b = omega arith

pub held_least : (height : ℕ) → held height ≡ min height (2 ^ 64 - 1)
unfolding held
held_least height = refl

-- a parameter without a default, and one with it
pub param_plain : (x : Param) → (out-Param x).default ≡ None → height_param (plain_param x) ≡ height_pattern (plain_pattern (out-Param x).pattern)
param_plain x none = ap height_param (param_made x ∙ ap (λ d. P.MakeParam (out-Param x).loc (plain_pattern (out-Param x).pattern) (plain_expr_if d)) none ∙ ap (P.MakeParam (out-Param x).loc (plain_pattern (out-Param x).pattern)) expr_if_none)

pub param_defaulted : (x : Param) (default : Expr) → (out-Param x).default ≡ Some default → height_param (plain_param x) ≡ max (height_pattern (plain_pattern (out-Param x).pattern)) (height_expr (plain_expr default)) + 1
param_defaulted x default some = ap height_param (param_made x ∙ ap (λ d. P.MakeParam (out-Param x).loc (plain_pattern (out-Param x).pattern) (plain_expr_if d)) some ∙ ap (P.MakeParam (out-Param x).loc (plain_pattern (out-Param x).pattern)) (expr_if_some default))

pub ruleset height_rules = (tree_rules, held_zero, held_one, held_two, held_more, held_max)

pub ruleset param_rules = (height_rules, param_plain)
