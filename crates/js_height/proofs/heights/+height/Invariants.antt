use Rattle.std.proofs.Common.{◌≡◌, max, drop}
use Rattle.js_height.specs.private.Held.{held}
use Rattle.js_tree.specs.Height.{height_template_parts, height_properties, height_params, height_exprs, height_stmts, height_declarators, height_cases}
use Rattle.js_tree.specs.Tree.{plain_template_parts, plain_properties, plain_params, plain_exprs, plain_stmts, plain_declarators, plain_cases}
use Rattle.js_height.proofs.heights.+height.Given as goal

abbrev pub invariant-of_template_parts-loop-template_part : goal.invariant-of_template_parts-loop-template_part
invariant-of_template_parts-loop-template_part l = max l.most (held (height_template_parts (plain_template_parts (drop l.template_part-index l.template_parts)))) ≡ held (height_template_parts (plain_template_parts l.template_parts))

abbrev pub invariant-of_properties-loop-property : goal.invariant-of_properties-loop-property
invariant-of_properties-loop-property l = max l.most (held (height_properties (plain_properties (drop l.property-index l.properties)))) ≡ held (height_properties (plain_properties l.properties))

abbrev pub invariant-of_params-loop-param : goal.invariant-of_params-loop-param
invariant-of_params-loop-param l = max l.most (held (height_params (plain_params (drop l.param-index l.params)))) ≡ held (height_params (plain_params l.params))

abbrev pub invariant-of_exprs-loop-expr : goal.invariant-of_exprs-loop-expr
invariant-of_exprs-loop-expr l = max l.most (held (height_exprs (plain_exprs (drop l.expr-index l.exprs)))) ≡ held (height_exprs (plain_exprs l.exprs))

abbrev pub invariant-of_stmts-loop-stmt : goal.invariant-of_stmts-loop-stmt
invariant-of_stmts-loop-stmt l = max l.most (held (height_stmts (plain_stmts (drop l.stmt-index l.stmts)))) ≡ held (height_stmts (plain_stmts l.stmts))

abbrev pub invariant-of_declarators-loop-declarator : goal.invariant-of_declarators-loop-declarator
invariant-of_declarators-loop-declarator l = max l.most (held (height_declarators (plain_declarators (drop l.declarator-index l.declarators)))) ≡ held (height_declarators (plain_declarators l.declarators))

abbrev pub invariant-of_cases-loop-case : goal.invariant-of_cases-loop-case
invariant-of_cases-loop-case l = max l.most (held (height_cases (plain_cases (drop l.case-index l.cases)))) ≡ held (height_cases (plain_cases l.cases))
