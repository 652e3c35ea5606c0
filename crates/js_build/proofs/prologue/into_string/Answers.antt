use Rattle.std.proofs.Common.{◌∙◌, sym, ap}
use Rattle.js_tree.specs.declared.tree.Expr.{Expr}
use Rattle.js_tree.specs.declared.tree.ConciseBody.TheViews.{out-Expr}
use Rattle.js_tree.specs.Tree.{plain_expr_node}
use Rattle.js_tree.proofs.Equations.{expr_made, expr_string_literal}
use Rattle.js_build.proofs.prologue.into_string.Goals as goal

pub returns-in-StringLiteral-clause-string : goal.returns-in-StringLiteral-clause-string
returns-in-StringLiteral-clause-string c =
    expr_made c.args.expression
    ∙ ap (λ n. plain_expr_node n (out-Expr c.args.expression).loc) (sym (c.into_parts-loc.ensures.node ∙ ap (λ (e : Expr). (out-Expr e).node) c.into_inner.ensures) ∙ c.in-StringLiteral.is)
    ∙ expr_string_literal c.in-StringLiteral.string (out-Expr c.args.expression).loc
