-- The plain tree of an expression, by its node.
use Rattle.std.proofs.Common.{◌≡◌, ◌∙◌, ◌||◌, Bool, ap}
use Rattle.js_tree.specs.declared.tree.Expr.{Expr}
use Rattle.js_tree.specs.declared.tree.ExprNode.{ExprNode}
use Rattle.js_tree.specs.declared.tree.ConciseBody.TheViews.{out-Expr}
use Rattle.js_tree.specs.Tree.{plain_expr, plain_expr_node}
use Rattle.js_tree.specs.Plain as tree
use Rattle.js_tree.proofs.Equations.{expr_made}

pub of_node : {n : ExprNode} {form : tree.Expr} (e : Expr) → (out-Expr e).node ≡ n → plain_expr_node n (out-Expr e).loc ≡ form → plain_expr e ≡ form
of_node {n} {form} e is made = expr_made e ∙ ap (λ n. plain_expr_node n (out-Expr e).loc) is ∙ made

pub or_is : {a b p q : Bool} → a ≡ p → b ≡ q → (a || b) ≡ (p || q)
or_is {a} {b} {p} {q} left right = ap (λ a. a || b) left ∙ ap (λ b. p || b) right
