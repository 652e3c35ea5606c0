use Rattle.std.proofs.Common.{◌≡◌, Some, ◌∙◌, true, false, sym, ap, subst}
use Rattle.js_tree.specs.Height.{height_expr}
use Rattle.js_tree.specs.Plain as tree
use Rattle.js_tree.specs.Plain.{more_expr}
use Rattle.js_tree.specs.Tree.{plain_expr, plain_exprs}
use Rattle.js_reading.specs.Slots.{AnExpr}
use Rattle.js_build.specs.Measures.{height_joined}
use Rattle.js_build.specs.View.{plain_pieces, Makes}
use Rattle.js_build.proofs.ParenthesesForms.{trailing_none, empty_none, enclosed}
use Rattle.js_build.proofs.parentheses.parenthesized.Goals as goal

pub returns-then-trailing : goal.returns-then-trailing
returns-then-trailing c = subst (λ due. Makes c.nothing.result due) (sym (trailing_none c.args.place c.args.trailing (plain_exprs c.args.list.items) (plain_pieces c.args.pieces) c.if-trailing.true)) c.nothing.ensures

pub returns-in-None : goal.returns-in-None
returns-in-None c = subst (λ due. Makes c.nothing-in-None.result due) (sym (empty_none c.args.place c.args.trailing (plain_exprs c.args.list.items) (plain_pieces c.args.pieces) c.if-trailing.false (ap plain_exprs (sym (c.new-left.ensures ∙ c.into_vec.ensures) ∙ c.in-None.ensures.next)))) c.nothing-in-None.ensures

pub returns-then-not-is_over : goal.returns-then-not-is_over
returns-then-not-is_over c =
    let items : plain_exprs c.args.list.items ≡ more_expr (plain_expr c.in-Some.first) (plain_exprs c.next.new.self) = ap plain_exprs (sym (c.new-left.ensures ∙ c.into_vec.ensures) ∙ c.in-Some.ensures.next) in
    subst (λ due. Makes c.nothing-then-not-is_over.result due) (sym (enclosed c.args.place c.args.trailing (plain_exprs c.args.list.items) (plain_expr c.in-Some.first) (plain_exprs c.next.new.self) (plain_pieces c.args.pieces) false c.if-trailing.false items c.if-not-is_over.ensures)) c.nothing-then-not-is_over.ensures

pub parenthesized_node-requires : goal.parenthesized_node-requires
parenthesized_node-requires c =
    let items : plain_exprs c.args.list.items ≡ more_expr (plain_expr c.in-Some.first) (plain_exprs c.next.new.self) = ap plain_exprs (sym (c.new-left.ensures ∙ c.into_vec.ensures) ∙ c.in-Some.ensures.next) in
    ap height_expr c.in_ok-inner-in-Some.ensures ∙ sym (c.args.list.joined_exact ∙ ap height_joined items)

pub returns-in_ok-inner-in-Some : goal.returns-in_ok-inner-in-Some
returns-in_ok-inner-in-Some c =
    let items : plain_exprs c.args.list.items ≡ more_expr (plain_expr c.in-Some.first) (plain_exprs c.next.new.self) = ap plain_exprs (sym (c.new-left.ensures ∙ c.into_vec.ensures) ∙ c.in-Some.ensures.next) in
    subst (λ due. Makes c.parenthesized_node.result due) (ap (λ e. Some (AnExpr 21 (tree.Parenthesized (Some c.args.place) e))) c.in_ok-inner-in-Some.ensures
    ∙ sym (enclosed c.args.place c.args.trailing (plain_exprs c.args.list.items) (plain_expr c.in-Some.first) (plain_exprs c.next.new.self) (plain_pieces c.args.pieces) true c.if-trailing.false items c.if-not-is_over.ensures)) c.parenthesized_node.ensures
