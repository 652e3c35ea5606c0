use Rattle.std.proofs.Common.{Some, false, sym, ap, ◌∙◌}
use Rattle.js_tree.specs.Tree.{plain_for_target}
use Rattle.js_tree.proofs.Equations as tree
use Rattle.js_meaning.specs.VarNames.{declares}
use Rattle.js_walk.specs.Part.{AForTarget}
use Rattle.js_code.proofs.names.declares_in_target.Goals as goal

pub returns-in-TargetDeclaration : goal.returns-in-TargetDeclaration
returns-in-TargetDeclaration c = ap Some c.is_the_var.ensures ∙ ap (λ f. declares false (AForTarget f)) (sym (ap plain_for_target c.in-TargetDeclaration.is ∙ tree.for_target_target_declaration _ _))

pub returns-in-TargetExpression : goal.returns-in-TargetExpression
returns-in-TargetExpression c = ap (λ f. declares false (AForTarget f)) (sym (ap plain_for_target c.in-TargetExpression.is ∙ tree.for_target_target_expression _))
