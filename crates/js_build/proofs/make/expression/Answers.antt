use Rattle.std.proofs.Common.{◌≡◌, ℕ, Bool, Some, ◌∙◌, sym, ap}
use Rattle.js_tree.specs.Tree.{plain_expr}
use Rattle.js_tree.proofs.Equations.{expr_rolled}
use Rattle.js_reading.specs.Slots.{AnExpr}
use Rattle.js_build.specs.Measures.{measures}
use Rattle.js_build.specs.View.{expr_node}
use Rattle.js_build.proofs.make.expression.Goals as goal

pub invariant_of-result : goal.invariant_of-result
invariant_of-result c =
    let made : plain_expr c.in_ok-tree.tree ≡ expr_node c.args.node c.args.place = ap plain_expr c.in_ok-tree.ensures ∙ expr_rolled (record { loc = Some c.args.place; node = c.args.node }) in
    let all = ap measures made ∙ c.requires in
    record {
      last_exact = sym (ap (λ (t : ℕ × (ℕ × Bool)). t.1.0) all);
      bare_exact = sym (ap (λ (t : ℕ × (ℕ × Bool)). t.1.1) all);
      height_exact = c.in_ok-height.ensures ∙ sym (ap (λ (t : ℕ × (ℕ × Bool)). t.0) all);
    }

pub returns : goal.returns
returns c = ap (λ e. Some (AnExpr c.args.level e)) (ap plain_expr c.in_ok-tree.ensures ∙ expr_rolled (record { loc = Some c.args.place; node = c.args.node }))
