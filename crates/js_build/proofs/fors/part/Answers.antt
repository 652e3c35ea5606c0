use Rattle.std.proofs.Common.{◌∙◌, sym, ap}
use Rattle.js_tree.specs.Height.{height_expr_if}
use Rattle.js_tree.proofs.Equations.{expr_if_none, expr_if_some}
use Rattle.js_build.specs.Lists.{test_view}
use Rattle.js_build.proofs.fors.part.Goals as goal

pub returns-in-None-clause-tree : goal.returns-in-None-clause-tree
returns-in-None-clause-tree c = expr_if_none ∙ sym (ap test_view c.in-None.is)

pub returns-in-None-clause-height : goal.returns-in-None-clause-height
returns-in-None-clause-height c = sym (ap (λ o. height_expr_if (test_view o)) c.in-None.is)

pub returns-in-Some-clause-tree : goal.returns-in-Some-clause-tree
returns-in-Some-clause-tree c = expr_if_some c.in-Some.operand.tree ∙ sym (ap test_view c.in-Some.is)

pub returns-in-Some-clause-height : goal.returns-in-Some-clause-height
returns-in-Some-clause-height c = c.in-Some.operand.height_exact ∙ sym (ap (λ o. height_expr_if (test_view o)) c.in-Some.is)
