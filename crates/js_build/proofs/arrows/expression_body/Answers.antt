use Rattle.std.proofs.Common.{◌≡◌, Some, ◌∙◌, true, false, sym, ap}
use Rattle.js_tree.specs.Height.{height_concise_body}
use Rattle.js_tree.specs.Plain as tree
use Rattle.js_tree.specs.Tree.{plain_concise_body, plain_expr}
use Rattle.js_tree.proofs.Equations.{concise_body_expression_body}
use Rattle.js_build.specs.Concise.{last_of, bare_of}
use Rattle.js_build.specs.View.{plain_pieces}
use Rattle.js_build.proofs.ArrowLaws.{concise_over}
use Rattle.js_build.proofs.arrows.expression_body.Goals as goal

pub returns-then-not-is_over : goal.returns-then-not-is_over
returns-then-not-is_over c = sym (concise_over c.args.value.level (plain_expr c.args.value.tree) (plain_pieces c.args.pieces) false c.if-not-is_over.ensures)

pub invariant_of-result : goal.invariant_of-result
invariant_of-result c =
    let made : plain_concise_body c.in_ok-new.field-0 ≡ tree.ExpressionBody (plain_expr c.args.value.tree) = ap plain_concise_body c.in_ok-new.ensures ∙ concise_body_expression_body c.into_inner.result ∙ ap (λ e. tree.ExpressionBody (plain_expr e)) c.into_inner.ensures in
    record {
      height_exact = c.args.value.height_exact ∙ sym (ap height_concise_body made);
      last_exact = c.args.value.last_exact ∙ sym (ap last_of made);
      bare_exact = c.args.value.bare_exact ∙ sym (ap bare_of made);
    }

pub returns : goal.returns
returns c =
    let made : plain_concise_body c.in_ok-new.field-0 ≡ tree.ExpressionBody (plain_expr c.args.value.tree) = ap plain_concise_body c.in_ok-new.ensures ∙ concise_body_expression_body c.into_inner.result ∙ ap (λ e. tree.ExpressionBody (plain_expr e)) c.into_inner.ensures in
    ap Some made ∙ sym (concise_over c.args.value.level (plain_expr c.args.value.tree) (plain_pieces c.args.pieces) true c.if-not-is_over.ensures)
