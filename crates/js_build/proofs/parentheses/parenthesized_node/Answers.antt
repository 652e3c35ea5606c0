use Rattle.std.proofs.Common.{◌∙◌, Some, ap, refl, sym}
use Rattle.js_tree.specs.Plain as tree
use Rattle.js_tree.specs.Tree.{plain_expr}
use Rattle.js_tree.proofs.Equations.{expr_parenthesized}
use Rattle.js_build.specs.Measures.{measures}
use Rattle.js_build.proofs.MadeAs.{makes_expr}
use Rattle.js_build.proofs.NodeMeasures.{all_same, one_same}
use Rattle.js_build.proofs.parentheses.parenthesized_node.Goals as goal

pub expression-requires : goal.expression-requires
expression-requires c = ap measures (expr_parenthesized c.in_ok-new.field-0 (Some c.args.place) ∙ ap (λ e. tree.Parenthesized (Some c.args.place) (plain_expr e)) c.in_ok-new.ensures) ∙ all_same (one_same (sym c.requires)) refl refl

pub returns : goal.returns
returns c = makes_expr c.expression.result 21 (expr_parenthesized c.in_ok-new.field-0 (Some c.args.place) ∙ ap (λ e. tree.Parenthesized (Some c.args.place) (plain_expr e)) c.in_ok-new.ensures) c.expression.ensures
