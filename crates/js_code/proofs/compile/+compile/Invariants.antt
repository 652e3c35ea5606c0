-- What is compiled of a list, and what is left of it.
use Rattle.std.proofs.Common.{drop}
use Rattle.js_tree.specs.Linked.{Unmarked, Uncounted, link_cases, link_declarators, link_exprs, link_params, link_properties, link_stmts, link_template_parts}
use Rattle.js_tree.specs.Tree.{plain_cases, plain_declarators, plain_exprs, plain_params, plain_properties, plain_stmts, plain_template_parts}
use Rattle.js_code.specs.private.Compiled.{Kept, Lists}
use Rattle.js_code.proofs.KindsOfLists.{cases_kind, declarators_kind, exprs_kind, params_kind, properties_kind, stmts_kind, template_parts_kind}
use Rattle.js_code.proofs.compile.+compile.Given as goal

abbrev pub invariant-exprs-loop-index : goal.invariant-exprs-loop-index
invariant-exprs-loop-index l = Kept l.fn.code l.code (Lists exprs_kind l.fn.code l.code l.places (link_exprs Unmarked (plain_exprs l.exprs)) (link_exprs Unmarked (plain_exprs (drop l.index l.exprs))))

abbrev pub invariant-template_parts-loop-index : goal.invariant-template_parts-loop-index
invariant-template_parts-loop-index l = Kept l.fn.code l.code (Lists template_parts_kind l.fn.code l.code l.places (link_template_parts Unmarked (plain_template_parts l.template_parts)) (link_template_parts Unmarked (plain_template_parts (drop l.index l.template_parts))))

abbrev pub invariant-properties-loop-index : goal.invariant-properties-loop-index
invariant-properties-loop-index l = Kept l.fn.code l.code (Lists properties_kind l.fn.code l.code l.places (link_properties Unmarked (plain_properties l.properties)) (link_properties Unmarked (plain_properties (drop l.index l.properties))))

abbrev pub invariant-params-loop-index : goal.invariant-params-loop-index
invariant-params-loop-index l = Kept l.fn.code l.code (Lists params_kind l.fn.code l.code l.places (link_params Unmarked (plain_params l.params)) (link_params Unmarked (plain_params (drop l.index l.params))))

abbrev pub invariant-stmts-loop-index : goal.invariant-stmts-loop-index
invariant-stmts-loop-index l = Kept l.fn.code l.code (Lists stmts_kind l.fn.code l.code l.places (link_stmts Unmarked (plain_stmts l.stmts)) (link_stmts Unmarked (plain_stmts (drop l.index l.stmts))))

abbrev pub invariant-declarators-loop-index : goal.invariant-declarators-loop-index
invariant-declarators-loop-index l = Kept l.fn.code l.code (Lists declarators_kind l.fn.code l.code l.places (link_declarators Unmarked (plain_declarators l.declarators)) (link_declarators Unmarked (plain_declarators (drop l.index l.declarators))))

abbrev pub invariant-cases-loop-index : goal.invariant-cases-loop-index
invariant-cases-loop-index l = Kept l.fn.code l.code (Lists cases_kind l.fn.code l.code l.places (link_cases Unmarked Uncounted 0 (plain_cases l.cases)) (link_cases Unmarked Uncounted 0 (plain_cases (drop l.index l.cases))))
