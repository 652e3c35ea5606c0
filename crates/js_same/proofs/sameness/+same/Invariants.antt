use Rattle.std.proofs.Common.{◌≡◌, ◌↔◌, drop}
use Rattle.js_tree.specs.Same.{bare_template_parts, bare_properties, bare_params, bare_exprs, bare_stmts, bare_declarators, bare_cases}
use Rattle.js_tree.specs.Tree.{plain_template_parts, plain_properties, plain_params, plain_exprs, plain_stmts, plain_declarators, plain_cases}
use Rattle.js_same.proofs.sameness.+same.Given as goal

abbrev pub invariant-same_template_parts-loop-i : goal.invariant-same_template_parts-loop-i
invariant-same_template_parts-loop-i l = (bare_template_parts (plain_template_parts (drop l.i l.a)) ≡ bare_template_parts (plain_template_parts (drop l.i l.b))) ↔ (bare_template_parts (plain_template_parts l.a) ≡ bare_template_parts (plain_template_parts l.b))

abbrev pub invariant-same_properties-loop-i : goal.invariant-same_properties-loop-i
invariant-same_properties-loop-i l = (bare_properties (plain_properties (drop l.i l.a)) ≡ bare_properties (plain_properties (drop l.i l.b))) ↔ (bare_properties (plain_properties l.a) ≡ bare_properties (plain_properties l.b))

abbrev pub invariant-same_params-loop-i : goal.invariant-same_params-loop-i
invariant-same_params-loop-i l = (bare_params (plain_params (drop l.i l.a)) ≡ bare_params (plain_params (drop l.i l.b))) ↔ (bare_params (plain_params l.a) ≡ bare_params (plain_params l.b))

abbrev pub invariant-same_exprs-loop-i : goal.invariant-same_exprs-loop-i
invariant-same_exprs-loop-i l = (bare_exprs (plain_exprs (drop l.i l.a)) ≡ bare_exprs (plain_exprs (drop l.i l.b))) ↔ (bare_exprs (plain_exprs l.a) ≡ bare_exprs (plain_exprs l.b))

abbrev pub invariant-same_stmts-loop-i : goal.invariant-same_stmts-loop-i
invariant-same_stmts-loop-i l = (bare_stmts (plain_stmts (drop l.i l.a)) ≡ bare_stmts (plain_stmts (drop l.i l.b))) ↔ (bare_stmts (plain_stmts l.a) ≡ bare_stmts (plain_stmts l.b))

abbrev pub invariant-same_declarators-loop-i : goal.invariant-same_declarators-loop-i
invariant-same_declarators-loop-i l = (bare_declarators (plain_declarators (drop l.i l.a)) ≡ bare_declarators (plain_declarators (drop l.i l.b))) ↔ (bare_declarators (plain_declarators l.a) ≡ bare_declarators (plain_declarators l.b))

abbrev pub invariant-same_cases-loop-i : goal.invariant-same_cases-loop-i
invariant-same_cases-loop-i l = (bare_cases (plain_cases (drop l.i l.a)) ≡ bare_cases (plain_cases (drop l.i l.b))) ↔ (bare_cases (plain_cases l.a) ≡ bare_cases (plain_cases l.b))
