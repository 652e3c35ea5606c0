use Rattle.std.proofs.Common.{◌∙◌, ◌+◌, Some, false, sym, ap}
use Rattle.js_tree.proofs.Equations.{expr_array_literal}
use Rattle.js_reading.specs.Slots.{AnExpr}
use Rattle.js_build.specs.Measures.{measures}
use Rattle.js_build.proofs.MadeAs.{makes_as}
use Rattle.js_build.proofs.calls.array_node.Goals as goal

pub expression-requires : goal.expression-requires
expression-requires c = ap measures (expr_array_literal c.args.list.items (Some c.args.place)) ∙ ap (λ n. (n + 1, (22, false))) (sym c.args.list.height_exact)

pub returns : goal.returns
returns c = makes_as c.expression.result (ap (λ e. Some (AnExpr 22 e)) (sym (expr_array_literal c.args.list.items (Some c.args.place)))) c.expression.ensures
