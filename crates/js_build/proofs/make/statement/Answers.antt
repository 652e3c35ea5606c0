use Rattle.std.proofs.Common.{◌≡◌, Some, ◌∙◌, sym, ap}
use Rattle.js_tree.specs.Height.{height_stmt}
use Rattle.js_tree.specs.Tree.{plain_stmt}
use Rattle.js_tree.proofs.Equations.{stmt_rolled}
use Rattle.js_reading.specs.Slots.{AStmt}
use Rattle.js_build.specs.View.{stmt_node}
use Rattle.js_build.proofs.make.statement.Goals as goal

pub invariant_of-result : goal.invariant_of-result
invariant_of-result c =
    let made : plain_stmt c.in_ok-tree.tree ≡ stmt_node c.args.node c.args.place = ap plain_stmt c.in_ok-tree.ensures ∙ stmt_rolled (record { loc = Some c.args.place; node = c.args.node }) in
    record { height_exact = c.in_ok-height.ensures ∙ sym (ap height_stmt made ∙ c.requires) }

pub returns : goal.returns
returns c = ap (λ s. Some (AStmt s)) (ap plain_stmt c.in_ok-tree.ensures ∙ stmt_rolled (record { loc = Some c.args.place; node = c.args.node }))
