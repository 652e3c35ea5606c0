use Rattle.std.proofs.Common.{Some, false, sym, ap, ◌∙◌}
use Rattle.js_tree.specs.Tree.{plain_for_init}
use Rattle.js_tree.proofs.Equations as tree
use Rattle.js_meaning.specs.VarNames.{declares}
use Rattle.js_walk.specs.Part.{AForInit}
use Rattle.js_code.proofs.names.declares_in_init.Goals as goal

pub returns-in-InitDeclaration : goal.returns-in-InitDeclaration
returns-in-InitDeclaration c = ap Some c.is_the_var.ensures ∙ ap (λ f. declares false (AForInit f)) (sym (ap plain_for_init c.in-InitDeclaration.is ∙ tree.for_init_init_declaration _ _))

pub returns-in-NoInit : goal.returns-in-NoInit
returns-in-NoInit c = ap (λ f. declares false (AForInit f)) (sym (ap plain_for_init c.in-NoInit.is ∙ tree.for_init_no_init))

pub returns-in-InitExpression : goal.returns-in-InitExpression
returns-in-InitExpression c = ap (λ f. declares false (AForInit f)) (sym (ap plain_for_init c.in-InitExpression.is ∙ tree.for_init_init_expression _))
