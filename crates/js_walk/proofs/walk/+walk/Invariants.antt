-- What is left of a list is found after what is found already.
use Rattle.std.proofs.Common.{◌≡◌, ◌++◌, drop}
use Rattle.js_walk.specs.Walk.{within_template_parts, within_properties, within_params, within_exprs, within_stmts, within_declarators, within_cases}
use Rattle.js_tree.specs.Tree.{plain_template_parts, plain_properties, plain_params, plain_exprs, plain_stmts, plain_declarators, plain_cases}
use Rattle.js_walk.proofs.walk.+walk.Given as goal

abbrev pub invariant-of_template_parts-loop-template_part : goal.invariant-of_template_parts-loop-template_part
invariant-of_template_parts-loop-template_part g l = g.V.Visitor.found l.visitor ++ within_template_parts g.V.Visitor.own g.V.Visitor.down (plain_template_parts (drop l.template_part-index l.template_parts)) (g.V.Visitor.told l.inherited) ≡ g.V.Visitor.found l.fn.visitor ++ within_template_parts g.V.Visitor.own g.V.Visitor.down (plain_template_parts l.template_parts) (g.V.Visitor.told l.inherited)

abbrev pub invariant-of_properties-loop-property : goal.invariant-of_properties-loop-property
invariant-of_properties-loop-property g l = g.V.Visitor.found l.visitor ++ within_properties g.V.Visitor.own g.V.Visitor.down (plain_properties (drop l.property-index l.properties)) (g.V.Visitor.told l.inherited) ≡ g.V.Visitor.found l.fn.visitor ++ within_properties g.V.Visitor.own g.V.Visitor.down (plain_properties l.properties) (g.V.Visitor.told l.inherited)

abbrev pub invariant-of_params-loop-param : goal.invariant-of_params-loop-param
invariant-of_params-loop-param g l = g.V.Visitor.found l.visitor ++ within_params g.V.Visitor.own g.V.Visitor.down (plain_params (drop l.param-index l.params)) (g.V.Visitor.told l.inherited) ≡ g.V.Visitor.found l.fn.visitor ++ within_params g.V.Visitor.own g.V.Visitor.down (plain_params l.params) (g.V.Visitor.told l.inherited)

abbrev pub invariant-of_exprs-loop-expr : goal.invariant-of_exprs-loop-expr
invariant-of_exprs-loop-expr g l = g.V.Visitor.found l.visitor ++ within_exprs g.V.Visitor.own g.V.Visitor.down (plain_exprs (drop l.expr-index l.exprs)) (g.V.Visitor.told l.inherited) ≡ g.V.Visitor.found l.fn.visitor ++ within_exprs g.V.Visitor.own g.V.Visitor.down (plain_exprs l.exprs) (g.V.Visitor.told l.inherited)

abbrev pub invariant-of_stmts-loop-stmt : goal.invariant-of_stmts-loop-stmt
invariant-of_stmts-loop-stmt g l = g.V.Visitor.found l.visitor ++ within_stmts g.V.Visitor.own g.V.Visitor.down (plain_stmts (drop l.stmt-index l.stmts)) (g.V.Visitor.told l.inherited) ≡ g.V.Visitor.found l.fn.visitor ++ within_stmts g.V.Visitor.own g.V.Visitor.down (plain_stmts l.stmts) (g.V.Visitor.told l.inherited)

abbrev pub invariant-of_declarators-loop-declarator : goal.invariant-of_declarators-loop-declarator
invariant-of_declarators-loop-declarator g l = g.V.Visitor.found l.visitor ++ within_declarators g.V.Visitor.own g.V.Visitor.down (plain_declarators (drop l.declarator-index l.declarators)) (g.V.Visitor.told l.inherited) ≡ g.V.Visitor.found l.fn.visitor ++ within_declarators g.V.Visitor.own g.V.Visitor.down (plain_declarators l.declarators) (g.V.Visitor.told l.inherited)

abbrev pub invariant-of_cases-loop-case : goal.invariant-of_cases-loop-case
invariant-of_cases-loop-case g l = g.V.Visitor.found l.visitor ++ within_cases g.V.Visitor.own g.V.Visitor.down (plain_cases (drop l.case-index l.cases)) (g.V.Visitor.told l.inherited) ≡ g.V.Visitor.found l.fn.visitor ++ within_cases g.V.Visitor.own g.V.Visitor.down (plain_cases l.cases) (g.V.Visitor.told l.inherited)
