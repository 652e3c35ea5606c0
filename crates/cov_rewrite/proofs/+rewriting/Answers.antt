use Rattle.std.proofs.Common.{◌≡◌, false, subst, sym, ap, ◌∙◌, arith, true, refl, None}
use Rattle.std.proofs.lemmas.Grind.{common_steps}
use Rattle.std.proofs.lemmas.Result.{IfOk-weaker}
use Rattle.std.specs.Result.{IfOk}
use Rattle.js_tree.proofs.Equations.{tree_rules, expr_rolled, exprs_push, template_parts_push, properties_push, params_push, stmts_push, declarators_push, cases_push, expr_assignment, expr_binary, expr_call, expr_comma, expr_computed_member, expr_logical, expr_new, stmt_do_while, stmt_for, stmt_for_in, stmt_for_of, stmt_switch, stmt_try_catch, stmt_try_catch_finally, stmt_try_finally, stmt_while, concise_body_expression_body, declarator_made, declarator_rolled, expr_conditional, expr_if_some, param_made, param_rolled, property_made, property_method, property_rolled, stmt_if, stmt_labelled, template_part_made, template_part_rolled, expr_arrow_function}
use Rattle.js_tree.specs.Hints.{heed, Heed, heed_arm}
use Rattle.js_tree.specs.Linked.{function_place}
use Rattle.js_terms.specs.Mark.{Mark}
use Rattle.js_tree.specs.Places.{stmt_place, bare_place, body_place, expr_place, concise_place}
use Rattle.js_tree.specs.Plain as tree
use Rattle.js_tree.specs.Tree.{plain_expr, plain_exprs, plain_template_part, plain_template_parts, plain_property, plain_properties, plain_param, plain_params, plain_stmt, plain_stmts, plain_declarator, plain_declarators, plain_case, plain_cases, plain_expr_node, plain_expr_if, plain_stmt_node, plain_for_init, plain_for_target, plain_catch, plain_concise_body, plain_function, plain_pattern, plain_property_key, plain_property_node, plain_stmt_if}
use Rattle.js_terms.specs.declared.construct.ConstructKind.TheVariants as construct_kind
use Rattle.js_tree.specs.declared.hint.Hint.TheVariants as hint
use Rattle.js_tree.specs.declared.tree.ConciseBody.TheViews.{out-Declarator, out-Param}
use Rattle.js_tree.specs.declared.tree.ExprNode.{ExprNode}
use Rattle.js_tree.specs.declared.tree.PropertyNode.{PropertyNode}
use Rattle.js_tree.specs.declared.tree.StmtNode.{StmtNode}
use Rattle.cov_rewritten.specs.Rewritten.{counts, counted, is_anonymous}
use Rattle.cov_rewrite.specs.Made as made
use Rattle.cov_rewrite.specs.Numbers.{counts_of}
use Rattle.cov_rewrite.specs.Site.{counter_of, heed_of}
use Rattle.cov_rewrite.proofs.Counted.{counted_else, branching_else, leaf_else}
use Rattle.cov_rewrite.proofs.Forms.{of_expr, next_of_expr, of_stmt, next_of_stmt, then_next, two_parts, three_parts, four_parts, logical_made, switch_made, conditional_made, if_made}
use Rattle.cov_rewrite.proofs.Joined.{counts_joined}
use Rattle.cov_rewrite.proofs.Leaves.{chain_past, leaf_counted, leaf_made, leaf_next, leaf_past, counted_before, counted_made}
use Rattle.cov_rewrite.proofs.Pushes.{still_first}
use Rattle.cov_rewrite.proofs.Steps.{exprs_step, parts_step, properties_step, params_step, stmts_step, declarators_step, cases_step}
use Rattle.cov_rewrite.proofs.Valued.{arm_at, concise_made, conditional_next, counts_at, default_made, initializer_made, leaf_at, looped_made, method_made, method_numbers, path_at, same_of, stmt_at, value_at, arrow_made}
use Rattle.cov_rewrite.proofs.+rewriting.Goals as goal

pub expressions::expressions-loop-each-preserved : goal.expressions::expressions-loop-each-preserved
expressions::expressions-loop-each-preserved t c =
    let site = c.args.site in
    let k = counts_of c.args.numbers.now in
    let xs = c.loop-each.yielded in
    let x = c.in-Some.each in
    let out = c.push.new.self in
    let next = counts_of c.expression.new.numbers in
    subst (λ zs. (plain_exprs out ≡ made.made_exprs (counter_of site) (heed_of site) zs k) × (next ≡ made.next_exprs (heed_of site) zs k)) (sym (exprs_push xs x))
    (exprs_step (counter_of site) (counter_of c.within-inner.result) (heed_of site) (heed_of c.within-inner.result) c.place_as_written.result (plain_exprs xs) (plain_expr x) k (counts_of c.loop-each.numbers) next
    (plain_exprs c.loop-each.out) (plain_exprs out) (plain_expr c.in_ok-made.made)
    c.loop-each.invariant c.place_as_written.ensures c.within-inner.ensures.left c.within-inner.ensures.counter c.in_ok-made.ensures.tree c.in_ok-made.ensures.next
    (ap plain_exprs c.in_ok-push.ensures.ok ∙ exprs_push c.loop-each.out c.in_ok-made.made))

pub expressions::template_parts-loop-each-preserved : goal.expressions::template_parts-loop-each-preserved
expressions::template_parts-loop-each-preserved t c =
    let site = c.args.site in
    let k = counts_of c.args.numbers.now in
    let xs = c.loop-each.yielded in
    let x = c.in-Some.each in
    let out = c.push.new.self in
    let next = counts_of c.template_part.new.numbers in
    subst (λ zs. (plain_template_parts out ≡ made.made_parts (counter_of site) (heed_of site) zs k) × (next ≡ made.next_parts (heed_of site) zs k)) (sym (template_parts_push xs x))
    (parts_step (counter_of site) (heed_of site) (plain_template_parts xs) (plain_template_part x) k (counts_of c.loop-each.numbers) next
    (plain_template_parts c.loop-each.out) (plain_template_parts out) (plain_template_part c.in_ok-made.made)
    c.loop-each.invariant c.in_ok-made.ensures.tree c.in_ok-made.ensures.next
    (ap plain_template_parts c.in_ok-push.ensures.ok ∙ template_parts_push c.loop-each.out c.in_ok-made.made))

pub expressions::properties-loop-each-preserved : goal.expressions::properties-loop-each-preserved
expressions::properties-loop-each-preserved t c =
    let site = c.args.site in
    let k = counts_of c.args.numbers.now in
    let xs = c.loop-each.yielded in
    let x = c.in-Some.each in
    let out = c.push.new.self in
    let next = counts_of c.property.new.numbers in
    subst (λ zs. (plain_properties out ≡ made.made_properties (counter_of site) (heed_of site) zs k) × (next ≡ made.next_properties (heed_of site) zs k)) (sym (properties_push xs x))
    (properties_step (counter_of site) (counter_of c.within-inner.result) (heed_of site) (heed_of c.within-inner.result) c.place_of_property.result (plain_properties xs) (plain_property x) k (counts_of c.loop-each.numbers) next
    (plain_properties c.loop-each.out) (plain_properties out) (plain_property c.in_ok-made.made)
    c.loop-each.invariant c.place_of_property.ensures c.within-inner.ensures.left c.within-inner.ensures.counter c.in_ok-made.ensures.tree c.in_ok-made.ensures.next
    (ap plain_properties c.in_ok-push.ensures.ok ∙ properties_push c.loop-each.out c.in_ok-made.made))

pub functions::params-loop-each-preserved : goal.functions::params-loop-each-preserved
functions::params-loop-each-preserved t c =
    let site = c.args.site in
    let k = counts_of c.args.numbers.now in
    let xs = c.loop-each.yielded in
    let x = c.in-Some.each in
    let out = c.push.new.self in
    let next = counts_of c.param.new.numbers in
    subst (λ zs. (plain_params out ≡ made.made_params (counter_of site) (heed_of site) zs k) × (next ≡ made.next_params (heed_of site) zs k)) (sym (params_push xs x))
    (params_step (counter_of site) (counter_of c.within-inner.result) (heed_of site) (heed_of c.within-inner.result) c.place_of_param.result (plain_params xs) (plain_param x) k (counts_of c.loop-each.numbers) next
    (plain_params c.loop-each.out) (plain_params out) (plain_param c.in_ok-made.made)
    c.loop-each.invariant c.place_of_param.ensures c.within-inner.ensures.left c.within-inner.ensures.counter c.in_ok-made.ensures.tree c.in_ok-made.ensures.next
    (ap plain_params c.in_ok-push.ensures.ok ∙ params_push c.loop-each.out c.in_ok-made.made))

pub statements::statements-loop-each-preserved : goal.statements::statements-loop-each-preserved
statements::statements-loop-each-preserved t c =
    let site = c.args.site in
    let home = c.args.home in
    let k = counts_of c.args.numbers.now in
    let xs = c.loop-each.yielded in
    let x = c.in-Some.each in
    let out = c.push.new.self in
    let next = counts_of c.statement.new.numbers in
    subst (λ zs. (plain_stmts out ≡ made.made_stmts (counter_of site) home (heed_of site) zs k) × (next ≡ made.next_stmts (heed_of site) zs k)) (sym (stmts_push xs x))
    (stmts_step (counter_of site) (counter_of c.within-inner.result) home (heed_of site) (heed_of c.within-inner.result) c.place_of_stmt.result (plain_stmts xs) (plain_stmt x) k (counts_of c.loop-each.numbers) next
    (plain_stmts c.loop-each.out) (plain_stmts c.in_ok-made.made.counters) (plain_stmts c.append.new.out) (plain_stmts out) (plain_stmt c.in_ok-made.made.statement)
    c.loop-each.invariant c.place_of_stmt.ensures c.within-inner.ensures.left c.within-inner.ensures.counter c.in_ok-made.ensures.before c.in_ok-made.ensures.tree c.in_ok-made.ensures.next
    c.in_ok-append.ensures (ap plain_stmts c.in_ok-push.ensures.ok ∙ stmts_push c.append.new.out c.in_ok-made.made.statement))

pub declarations::declarators-loop-each-preserved : goal.declarations::declarators-loop-each-preserved
declarations::declarators-loop-each-preserved t c =
    let site = c.args.site in
    let home = c.args.home in
    let k = counts_of c.args.numbers.now in
    let xs = c.loop-each.yielded in
    let x = c.in-Some.each in
    let out = c.push.new.self in
    let counters = c.append.new.out in
    let next = counts_of c.declarator.new.numbers in
    subst (λ zs. (plain_declarators out ≡ made.made_declarators (counter_of site) home (heed_of site) zs k) × (plain_stmts counters ≡ counts (counter_of site) (made.hoisted home (heed_of site) zs k))
    × (false ≡ still_first zs home) × (next ≡ made.next_declarators (heed_of site) zs k)) (sym (declarators_push xs x))
    (declarators_step (counter_of site) (counter_of c.within-inner.result) home c.loop-each.hoists (heed_of site) (heed_of c.within-inner.result) c.place_of_declarator.result (plain_declarators xs) (plain_declarator x) k
    (counts_of c.loop-each.numbers) next (plain_declarators c.loop-each.out) (plain_declarators out) (plain_stmts c.loop-each.counters) (plain_stmts c.in_ok-made.made.counters) (plain_stmts counters) (plain_declarator c.in_ok-made.made.declarator)
    c.loop-each.invariant c.place_of_declarator.ensures c.within-inner.ensures.left c.within-inner.ensures.counter c.in_ok-made.ensures.before c.in_ok-made.ensures.tree c.in_ok-made.ensures.next
    c.in_ok-append.ensures (ap plain_declarators c.in_ok-push.ensures.ok ∙ declarators_push c.loop-each.out c.in_ok-made.made.declarator))

pub statements::cases-loop-each-preserved : goal.statements::cases-loop-each-preserved
statements::cases-loop-each-preserved t c =
    let site = c.args.site in
    let branch = c.args.branch in
    let k = counts_of c.args.numbers.now in
    let xs = c.loop-each.yielded in
    let x = c.in-Some.each in
    let out = c.push.new.self in
    let path = c.in_ok-path.path in
    let next = counts_of c.case.new.numbers in
    subst (λ zs. (plain_cases out ≡ made.made_cases (counter_of site) (heed_of site) branch 0 zs k) × (path ≡ made.past_cases (heed_of site) 0 zs) × (next ≡ made.next_cases (heed_of site) zs k)) (sym (cases_push xs x))
    (cases_step (counter_of site) (counter_of c.within-inner.result) (heed_of site) (heed_of c.within-inner.result) c.place_of_case.result branch c.in_branch-number.result c.loop-each.path path (plain_cases xs) (plain_case x) k
    (counts_of c.loop-each.numbers) next (plain_cases c.loop-each.out) (plain_cases out) (plain_stmts c.in_ok-counters.counters) (plain_case c.in_ok-made.made)
    c.loop-each.invariant c.place_of_case.ensures c.within-inner.ensures.left c.within-inner.ensures.counter c.in_branch-number.ensures c.in_ok-counters.ensures c.in_ok-made.ensures.tree c.in_ok-made.ensures.next
    c.in_ok-path.ensures (ap plain_cases c.in_ok-push.ensures.ok ∙ cases_push c.loop-each.out c.in_ok-made.made))

pub expressions::counted_leaf-returns-clause-tree : goal.expressions::counted_leaf-returns-clause-tree
expressions::counted_leaf-returns-clause-tree t c =
    let site = c.args.site in
    let count = counter_of site in
    let left = heed_of site in
    let b = c.args.branch in
    let p = c.args.path in
    let e = plain_expr_node c.args.node c.args.loc in
    let k = counts_of c.args.numbers.now in
    let marks = made.path_marks left b p in
    ap plain_expr c.in_ok-value.ensures
    ∙ c.in_ok-made.ensures
    ∙ ap (λ n. counted count (made.marks_of construct_kind.Branch p n) (plain_expr (record { loc = c.args.loc; node = c.in_ok-node.node }))) c.in_branch-number.ensures
    ∙ ap (counted count marks) (expr_rolled _ ∙ c.in_ok-node.ensures.tree)
    ∙ sym (ap (counted count marks) (leaf_made count left b p e k c.requires))
    ∙ sym (leaf_counted count left b p e (made.made_expr count left (made.Among b p) e k) c.requires)

pub expressions::counted_leaf-returns-clause-path : goal.expressions::counted_leaf-returns-clause-path
expressions::counted_leaf-returns-clause-path t c =
    c.in_ok-path.ensures ∙ sym (leaf_past (heed_of c.args.site) c.args.path (plain_expr_node c.args.node c.args.loc) c.requires)

pub expressions::counted_leaf-returns-clause-next : goal.expressions::counted_leaf-returns-clause-next
expressions::counted_leaf-returns-clause-next t c =
    c.in_ok-node.ensures.next ∙ sym (leaf_next (heed_of c.args.site) (plain_expr_node c.args.node c.args.loc) (counts_of c.args.numbers.now) c.requires)

pub statements::statement_node-returns-in_ok-inner-in-Labelled-clause-before : goal.statements::statement_node-returns-in_ok-inner-in-Labelled-clause-before
statements::statement_node-returns-in_ok-inner-in-Labelled-clause-before t c =
    let left = heed_of c.args.site in
    let k = counts_of c.args.numbers.now in
    let x = plain_stmt c.in-Labelled.inner in
    let both = counts_joined (counter_of c.args.site) (made.own_marks construct_kind.Statement left c.args.loc k)
    (made.marks_before false (heed left (stmt_place x)) x (made.after construct_kind.Statement left c.args.loc k)) in
    grind (arith, tree_rules, both)

pub statements::then_arm-returns-clause-before : goal.statements::then_arm-returns-clause-before
statements::then_arm-returns-clause-before t c =
    let left = heed_of c.args.site in
    let k = counts_of c.args.numbers.now in
    let both = counts_joined (counter_of c.args.site) (made.path_marks left c.args.branch 0) (made.marks_before false left (plain_stmt c.args.x) k) in
    grind (arith, tree_rules, both)

pub statements::else_arm-returns-in_ok-statement-in-Some-clause-before : goal.statements::else_arm-returns-in_ok-statement-in-Some-clause-before
statements::else_arm-returns-in_ok-statement-in-Some-clause-before t c =
    let left = heed_of c.args.site in
    let k = counts_of c.args.numbers.now in
    let both = counts_joined (counter_of c.args.site) (made.path_marks left c.args.branch c.args.path) (made.marks_before false left (plain_stmt c.in-Some.x) k) in
    grind (arith, tree_rules, both)

pub expressions::chained_node-returns-in_ok-value-in-Logical-clause-path : goal.expressions::chained_node-returns-in_ok-value-in-Logical-clause-path
expressions::chained_node-returns-in_ok-value-in-Logical-clause-path t c =
    let e = plain_expr c.in-Logical.one in
    let f = plain_expr c.in-Logical.other in
    let past = chain_past (heed_of c.args.site) c.args.loc c.in-Logical.operator e f c.args.path c.in_ok-one-in-Logical.one.path c.in_ok-other-in-Logical.other.path
    c.in_ok-one-in-Logical.ensures.path c.in_ok-other-in-Logical.ensures.path in
    grind (arith, tree_rules, past)

pub expressions::expression_node-returns-in_ok-key-in-ComputedMember-clause-tree : goal.expressions::expression_node-returns-in_ok-key-in-ComputedMember-clause-tree
expressions::expression_node-returns-in_ok-key-in-ComputedMember-clause-tree t c =
    let left = heed_of c.args.site in
    let count = counter_of c.args.site in
    let k0 = counts_of c.args.numbers.now in
    let object = plain_expr c.in-ComputedMember.object in
    let key = plain_expr c.in-ComputedMember.key in
    of_expr count left k0 (ap (λ (n : ExprNode). plain_expr_node n c.args.loc) c.in-ComputedMember.is ∙ expr_computed_member _ _ _)
    (expr_computed_member _ _ _ ∙ two_parts (λ x y. tree.ComputedMember c.args.loc x y) (made.made_expr count (made.left_in left object) made.Alone object) (made.next_expr (made.left_in left object) false object) (made.made_expr count (made.left_in left key) made.Alone key) refl c.in_ok-object-in-ComputedMember.ensures.tree c.in_ok-object-in-ComputedMember.ensures.next c.in_ok-key-in-ComputedMember.ensures.tree)

pub expressions::expression_node-returns-in_ok-key-in-ComputedMember-clause-next : goal.expressions::expression_node-returns-in_ok-key-in-ComputedMember-clause-next
expressions::expression_node-returns-in_ok-key-in-ComputedMember-clause-next t c =
    let left = heed_of c.args.site in
    let k0 = counts_of c.args.numbers.now in
    let object = plain_expr c.in-ComputedMember.object in
    let key = plain_expr c.in-ComputedMember.key in
    next_of_expr left k0 (ap (λ (n : ExprNode). plain_expr_node n c.args.loc) c.in-ComputedMember.is ∙ expr_computed_member _ _ _) (then_next (made.next_expr (made.left_in left key) false key) (then_next (made.next_expr (made.left_in left object) false object) refl c.in_ok-object-in-ComputedMember.ensures.next) c.in_ok-key-in-ComputedMember.ensures.next)

pub expressions::expression_node-returns-in_ok-list-in-New-clause-tree : goal.expressions::expression_node-returns-in_ok-list-in-New-clause-tree
expressions::expression_node-returns-in_ok-list-in-New-clause-tree t c =
    let left = heed_of c.args.site in
    let count = counter_of c.args.site in
    let k0 = counts_of c.args.numbers.now in
    let callee = plain_expr c.in-New.callee in
    let list = plain_exprs c.in-New.list in
    of_expr count left k0 (ap (λ (n : ExprNode). plain_expr_node n c.args.loc) c.in-New.is ∙ expr_new _ _ _)
    (expr_new _ _ _ ∙ two_parts (λ x y. tree.New c.args.loc x y) (made.made_expr count (made.left_in left callee) made.Alone callee) (made.next_expr (made.left_in left callee) false callee) (made.made_exprs count left list) refl c.in_ok-callee-in-New.ensures.tree c.in_ok-callee-in-New.ensures.next c.in_ok-list-in-New.ensures.tree)

pub expressions::expression_node-returns-in_ok-list-in-New-clause-next : goal.expressions::expression_node-returns-in_ok-list-in-New-clause-next
expressions::expression_node-returns-in_ok-list-in-New-clause-next t c =
    let left = heed_of c.args.site in
    let k0 = counts_of c.args.numbers.now in
    let callee = plain_expr c.in-New.callee in
    let list = plain_exprs c.in-New.list in
    next_of_expr left k0 (ap (λ (n : ExprNode). plain_expr_node n c.args.loc) c.in-New.is ∙ expr_new _ _ _) (then_next (made.next_exprs left list) (then_next (made.next_expr (made.left_in left callee) false callee) refl c.in_ok-callee-in-New.ensures.next) c.in_ok-list-in-New.ensures.next)

pub expressions::expression_node-returns-in_ok-list-in-Call-clause-tree : goal.expressions::expression_node-returns-in_ok-list-in-Call-clause-tree
expressions::expression_node-returns-in_ok-list-in-Call-clause-tree t c =
    let left = heed_of c.args.site in
    let count = counter_of c.args.site in
    let k0 = counts_of c.args.numbers.now in
    let callee = plain_expr c.in-Call.callee in
    let list = plain_exprs c.in-Call.list in
    of_expr count left k0 (ap (λ (n : ExprNode). plain_expr_node n c.args.loc) c.in-Call.is ∙ expr_call _ _ _)
    (expr_call _ _ _ ∙ two_parts (λ x y. tree.Call c.args.loc x y) (made.made_expr count (made.left_in left callee) made.Alone callee) (made.next_expr (made.left_in left callee) false callee) (made.made_exprs count left list) refl c.in_ok-callee-in-Call.ensures.tree c.in_ok-callee-in-Call.ensures.next c.in_ok-list-in-Call.ensures.tree)

pub expressions::expression_node-returns-in_ok-list-in-Call-clause-next : goal.expressions::expression_node-returns-in_ok-list-in-Call-clause-next
expressions::expression_node-returns-in_ok-list-in-Call-clause-next t c =
    let left = heed_of c.args.site in
    let k0 = counts_of c.args.numbers.now in
    let callee = plain_expr c.in-Call.callee in
    let list = plain_exprs c.in-Call.list in
    next_of_expr left k0 (ap (λ (n : ExprNode). plain_expr_node n c.args.loc) c.in-Call.is ∙ expr_call _ _ _) (then_next (made.next_exprs left list) (then_next (made.next_expr (made.left_in left callee) false callee) refl c.in_ok-callee-in-Call.ensures.next) c.in_ok-list-in-Call.ensures.next)

pub expressions::expression_node-returns-in_ok-other-in-Binary-clause-tree : goal.expressions::expression_node-returns-in_ok-other-in-Binary-clause-tree
expressions::expression_node-returns-in_ok-other-in-Binary-clause-tree t c =
    let left = heed_of c.args.site in
    let count = counter_of c.args.site in
    let k0 = counts_of c.args.numbers.now in
    let one = plain_expr c.in-Binary.one in
    let other = plain_expr c.in-Binary.other in
    of_expr count left k0 (ap (λ (n : ExprNode). plain_expr_node n c.args.loc) c.in-Binary.is ∙ expr_binary _ _ _ _)
    (expr_binary _ _ _ _ ∙ two_parts (λ x y. tree.Binary c.args.loc c.in-Binary.operator x y) (made.made_expr count (made.left_in left one) made.Alone one) (made.next_expr (made.left_in left one) false one) (made.made_expr count (made.left_in left other) made.Alone other) refl c.in_ok-one-in-Binary.ensures.tree c.in_ok-one-in-Binary.ensures.next c.in_ok-other-in-Binary.ensures.tree)

pub expressions::expression_node-returns-in_ok-other-in-Binary-clause-next : goal.expressions::expression_node-returns-in_ok-other-in-Binary-clause-next
expressions::expression_node-returns-in_ok-other-in-Binary-clause-next t c =
    let left = heed_of c.args.site in
    let k0 = counts_of c.args.numbers.now in
    let one = plain_expr c.in-Binary.one in
    let other = plain_expr c.in-Binary.other in
    next_of_expr left k0 (ap (λ (n : ExprNode). plain_expr_node n c.args.loc) c.in-Binary.is ∙ expr_binary _ _ _ _) (then_next (made.next_expr (made.left_in left other) false other) (then_next (made.next_expr (made.left_in left one) false one) refl c.in_ok-one-in-Binary.ensures.next) c.in_ok-other-in-Binary.ensures.next)

pub expressions::expression_node-returns-in_ok-value-in-Assignment-clause-tree : goal.expressions::expression_node-returns-in_ok-value-in-Assignment-clause-tree
expressions::expression_node-returns-in_ok-value-in-Assignment-clause-tree t c =
    let left = heed_of c.args.site in
    let count = counter_of c.args.site in
    let k0 = counts_of c.args.numbers.now in
    let target = plain_expr c.in-Assignment.target in
    let value = plain_expr c.in-Assignment.value in
    of_expr count left k0 (ap (λ (n : ExprNode). plain_expr_node n c.args.loc) c.in-Assignment.is ∙ expr_assignment _ _ _ _)
    (expr_assignment _ _ _ _ ∙ two_parts (λ x y. tree.Assignment c.args.loc c.in-Assignment.operator x y) (made.made_expr count (made.left_in left target) made.Alone target) (made.next_expr (made.left_in left target) false target) (made.made_expr count (made.left_in left value) made.Alone value) refl c.in_ok-target-in-Assignment.ensures.tree c.in_ok-target-in-Assignment.ensures.next c.in_ok-value-in-Assignment.ensures.tree)

pub expressions::expression_node-returns-in_ok-value-in-Assignment-clause-next : goal.expressions::expression_node-returns-in_ok-value-in-Assignment-clause-next
expressions::expression_node-returns-in_ok-value-in-Assignment-clause-next t c =
    let left = heed_of c.args.site in
    let k0 = counts_of c.args.numbers.now in
    let target = plain_expr c.in-Assignment.target in
    let value = plain_expr c.in-Assignment.value in
    next_of_expr left k0 (ap (λ (n : ExprNode). plain_expr_node n c.args.loc) c.in-Assignment.is ∙ expr_assignment _ _ _ _) (then_next (made.next_expr (made.left_in left value) false value) (then_next (made.next_expr (made.left_in left target) false target) refl c.in_ok-target-in-Assignment.ensures.next) c.in_ok-value-in-Assignment.ensures.next)

pub expressions::expression_node-returns-in_ok-other-in-Comma-clause-tree : goal.expressions::expression_node-returns-in_ok-other-in-Comma-clause-tree
expressions::expression_node-returns-in_ok-other-in-Comma-clause-tree t c =
    let left = heed_of c.args.site in
    let count = counter_of c.args.site in
    let k0 = counts_of c.args.numbers.now in
    let one = plain_expr c.in-Comma.one in
    let other = plain_expr c.in-Comma.other in
    of_expr count left k0 (ap (λ (n : ExprNode). plain_expr_node n c.args.loc) c.in-Comma.is ∙ expr_comma _ _ _)
    (expr_comma _ _ _ ∙ two_parts (λ x y. tree.Comma c.args.loc x y) (made.made_expr count (made.left_in left one) made.Alone one) (made.next_expr (made.left_in left one) false one) (made.made_expr count (made.left_in left other) made.Alone other) refl c.in_ok-one-in-Comma.ensures.tree c.in_ok-one-in-Comma.ensures.next c.in_ok-other-in-Comma.ensures.tree)

pub expressions::expression_node-returns-in_ok-other-in-Comma-clause-next : goal.expressions::expression_node-returns-in_ok-other-in-Comma-clause-next
expressions::expression_node-returns-in_ok-other-in-Comma-clause-next t c =
    let left = heed_of c.args.site in
    let k0 = counts_of c.args.numbers.now in
    let one = plain_expr c.in-Comma.one in
    let other = plain_expr c.in-Comma.other in
    next_of_expr left k0 (ap (λ (n : ExprNode). plain_expr_node n c.args.loc) c.in-Comma.is ∙ expr_comma _ _ _) (then_next (made.next_expr (made.left_in left other) false other) (then_next (made.next_expr (made.left_in left one) false one) refl c.in_ok-one-in-Comma.ensures.next) c.in_ok-other-in-Comma.ensures.next)

pub statements::numbered_node-returns-in_ok-test-in-DoWhile-clause-before : goal.statements::numbered_node-returns-in_ok-test-in-DoWhile-clause-before
statements::numbered_node-returns-in_ok-test-in-DoWhile-clause-before t c k = ap (λ x. made.marks_before false (heed_of c.args.site) x k) (ap (λ (n : StmtNode). plain_stmt_node n c.args.loc) c.in-DoWhile.is ∙ stmt_do_while _ _ _)

pub statements::numbered_node-returns-in_ok-test-in-DoWhile-clause-tree : goal.statements::numbered_node-returns-in_ok-test-in-DoWhile-clause-tree
statements::numbered_node-returns-in_ok-test-in-DoWhile-clause-tree t c k from =
    let left = heed_of c.args.site in
    let count = counter_of c.args.site in
    let inner = plain_stmt c.in-DoWhile.inner in
    let test = plain_expr c.in-DoWhile.test in
    of_stmt count false left k (ap (λ (n : StmtNode). plain_stmt_node n c.args.loc) c.in-DoWhile.is ∙ stmt_do_while _ _ _)
    (stmt_do_while _ _ _ ∙ two_parts (λ x y. tree.DoWhile c.args.loc x y) (made.made_looped count (heed left (stmt_place inner)) inner) (made.next_stmt (heed left (stmt_place inner)) inner) (made.made_expr count (made.left_in left test) made.Alone test) from c.in_ok-inner-in-DoWhile.ensures.tree c.in_ok-inner-in-DoWhile.ensures.next c.in_ok-test-in-DoWhile.ensures.tree)

pub statements::numbered_node-returns-in_ok-test-in-DoWhile-clause-next : goal.statements::numbered_node-returns-in_ok-test-in-DoWhile-clause-next
statements::numbered_node-returns-in_ok-test-in-DoWhile-clause-next t c k from =
    let left = heed_of c.args.site in
    let inner = plain_stmt c.in-DoWhile.inner in
    let test = plain_expr c.in-DoWhile.test in
    next_of_stmt left k (ap (λ (n : StmtNode). plain_stmt_node n c.args.loc) c.in-DoWhile.is ∙ stmt_do_while _ _ _) (then_next (made.next_expr (made.left_in left test) false test) (then_next (made.next_stmt (heed left (stmt_place inner)) inner) from c.in_ok-inner-in-DoWhile.ensures.next) c.in_ok-test-in-DoWhile.ensures.next)

pub statements::numbered_node-returns-in_ok-inner-in-While-clause-before : goal.statements::numbered_node-returns-in_ok-inner-in-While-clause-before
statements::numbered_node-returns-in_ok-inner-in-While-clause-before t c k = ap (λ x. made.marks_before false (heed_of c.args.site) x k) (ap (λ (n : StmtNode). plain_stmt_node n c.args.loc) c.in-While.is ∙ stmt_while _ _ _)

pub statements::numbered_node-returns-in_ok-inner-in-While-clause-tree : goal.statements::numbered_node-returns-in_ok-inner-in-While-clause-tree
statements::numbered_node-returns-in_ok-inner-in-While-clause-tree t c k from =
    let left = heed_of c.args.site in
    let count = counter_of c.args.site in
    let test = plain_expr c.in-While.test in
    let inner = plain_stmt c.in-While.inner in
    of_stmt count false left k (ap (λ (n : StmtNode). plain_stmt_node n c.args.loc) c.in-While.is ∙ stmt_while _ _ _)
    (stmt_while _ _ _ ∙ two_parts (λ x y. tree.While c.args.loc x y) (made.made_expr count (made.left_in left test) made.Alone test) (made.next_expr (made.left_in left test) false test) (made.made_looped count (heed left (stmt_place inner)) inner) from c.in_ok-test-in-While.ensures.tree c.in_ok-test-in-While.ensures.next c.in_ok-inner-in-While.ensures.tree)

pub statements::numbered_node-returns-in_ok-inner-in-While-clause-next : goal.statements::numbered_node-returns-in_ok-inner-in-While-clause-next
statements::numbered_node-returns-in_ok-inner-in-While-clause-next t c k from =
    let left = heed_of c.args.site in
    let test = plain_expr c.in-While.test in
    let inner = plain_stmt c.in-While.inner in
    next_of_stmt left k (ap (λ (n : StmtNode). plain_stmt_node n c.args.loc) c.in-While.is ∙ stmt_while _ _ _) (then_next (made.next_stmt (heed left (stmt_place inner)) inner) (then_next (made.next_expr (made.left_in left test) false test) from c.in_ok-test-in-While.ensures.next) c.in_ok-inner-in-While.ensures.next)

pub statements::numbered_node-returns-in_ok-inner-in-For-clause-before : goal.statements::numbered_node-returns-in_ok-inner-in-For-clause-before
statements::numbered_node-returns-in_ok-inner-in-For-clause-before t c k = ap (λ x. made.marks_before false (heed_of c.args.site) x k) (ap (λ (n : StmtNode). plain_stmt_node n c.args.loc) c.in-For.is ∙ stmt_for _ _ _ _ _)

pub statements::numbered_node-returns-in_ok-inner-in-For-clause-tree : goal.statements::numbered_node-returns-in_ok-inner-in-For-clause-tree
statements::numbered_node-returns-in_ok-inner-in-For-clause-tree t c k from =
    let left = heed_of c.args.site in
    let count = counter_of c.args.site in
    let init = plain_for_init c.in-For.init in
    let test = plain_expr_if c.in-For.test in
    let step = plain_expr_if c.in-For.step in
    let inner = plain_stmt c.in-For.inner in
    of_stmt count false left k (ap (λ (n : StmtNode). plain_stmt_node n c.args.loc) c.in-For.is ∙ stmt_for _ _ _ _ _)
    (stmt_for _ _ _ _ _ ∙ four_parts (λ x y z w. tree.For c.args.loc x y z w) (made.made_init count left init) (made.next_init left init) (made.made_maybe count left test) (made.next_maybe left test) (made.made_maybe count left step) (made.next_maybe left step) (made.made_looped count (heed left (stmt_place inner)) inner) from c.in_ok-init-in-For.ensures.tree c.in_ok-init-in-For.ensures.next c.in_ok-test-in-For.ensures.tree c.in_ok-test-in-For.ensures.next c.in_ok-step-in-For.ensures.tree c.in_ok-step-in-For.ensures.next c.in_ok-inner-in-For.ensures.tree)

pub statements::numbered_node-returns-in_ok-inner-in-For-clause-next : goal.statements::numbered_node-returns-in_ok-inner-in-For-clause-next
statements::numbered_node-returns-in_ok-inner-in-For-clause-next t c k from =
    let left = heed_of c.args.site in
    let init = plain_for_init c.in-For.init in
    let test = plain_expr_if c.in-For.test in
    let step = plain_expr_if c.in-For.step in
    let inner = plain_stmt c.in-For.inner in
    next_of_stmt left k (ap (λ (n : StmtNode). plain_stmt_node n c.args.loc) c.in-For.is ∙ stmt_for _ _ _ _ _) (then_next (made.next_stmt (heed left (stmt_place inner)) inner) (then_next (made.next_maybe left step) (then_next (made.next_maybe left test) (then_next (made.next_init left init) from c.in_ok-init-in-For.ensures.next) c.in_ok-test-in-For.ensures.next) c.in_ok-step-in-For.ensures.next) c.in_ok-inner-in-For.ensures.next)

pub statements::numbered_node-returns-in_ok-inner-in-ForIn-clause-before : goal.statements::numbered_node-returns-in_ok-inner-in-ForIn-clause-before
statements::numbered_node-returns-in_ok-inner-in-ForIn-clause-before t c k = ap (λ x. made.marks_before false (heed_of c.args.site) x k) (ap (λ (n : StmtNode). plain_stmt_node n c.args.loc) c.in-ForIn.is ∙ stmt_for_in _ _ _ _)

pub statements::numbered_node-returns-in_ok-inner-in-ForIn-clause-tree : goal.statements::numbered_node-returns-in_ok-inner-in-ForIn-clause-tree
statements::numbered_node-returns-in_ok-inner-in-ForIn-clause-tree t c k from =
    let left = heed_of c.args.site in
    let count = counter_of c.args.site in
    let target = plain_for_target c.in-ForIn.target in
    let value = plain_expr c.in-ForIn.value in
    let inner = plain_stmt c.in-ForIn.inner in
    of_stmt count false left k (ap (λ (n : StmtNode). plain_stmt_node n c.args.loc) c.in-ForIn.is ∙ stmt_for_in _ _ _ _)
    (stmt_for_in _ _ _ _ ∙ three_parts (λ x y z. tree.ForIn c.args.loc x y z) (made.made_target count left target) (made.next_target left target) (made.made_expr count (made.left_in left value) made.Alone value) (made.next_expr (made.left_in left value) false value) (made.made_looped count (heed left (stmt_place inner)) inner) from c.in_ok-target-in-ForIn.ensures.tree c.in_ok-target-in-ForIn.ensures.next c.in_ok-value-in-ForIn.ensures.tree c.in_ok-value-in-ForIn.ensures.next c.in_ok-inner-in-ForIn.ensures.tree)

pub statements::numbered_node-returns-in_ok-inner-in-ForIn-clause-next : goal.statements::numbered_node-returns-in_ok-inner-in-ForIn-clause-next
statements::numbered_node-returns-in_ok-inner-in-ForIn-clause-next t c k from =
    let left = heed_of c.args.site in
    let target = plain_for_target c.in-ForIn.target in
    let value = plain_expr c.in-ForIn.value in
    let inner = plain_stmt c.in-ForIn.inner in
    next_of_stmt left k (ap (λ (n : StmtNode). plain_stmt_node n c.args.loc) c.in-ForIn.is ∙ stmt_for_in _ _ _ _) (then_next (made.next_stmt (heed left (stmt_place inner)) inner) (then_next (made.next_expr (made.left_in left value) false value) (then_next (made.next_target left target) from c.in_ok-target-in-ForIn.ensures.next) c.in_ok-value-in-ForIn.ensures.next) c.in_ok-inner-in-ForIn.ensures.next)

pub statements::numbered_node-returns-in_ok-inner-in-ForOf-clause-before : goal.statements::numbered_node-returns-in_ok-inner-in-ForOf-clause-before
statements::numbered_node-returns-in_ok-inner-in-ForOf-clause-before t c k = ap (λ x. made.marks_before false (heed_of c.args.site) x k) (ap (λ (n : StmtNode). plain_stmt_node n c.args.loc) c.in-ForOf.is ∙ stmt_for_of _ _ _ _)

pub statements::numbered_node-returns-in_ok-inner-in-ForOf-clause-tree : goal.statements::numbered_node-returns-in_ok-inner-in-ForOf-clause-tree
statements::numbered_node-returns-in_ok-inner-in-ForOf-clause-tree t c k from =
    let left = heed_of c.args.site in
    let count = counter_of c.args.site in
    let target = plain_for_target c.in-ForOf.target in
    let value = plain_expr c.in-ForOf.value in
    let inner = plain_stmt c.in-ForOf.inner in
    of_stmt count false left k (ap (λ (n : StmtNode). plain_stmt_node n c.args.loc) c.in-ForOf.is ∙ stmt_for_of _ _ _ _)
    (stmt_for_of _ _ _ _ ∙ three_parts (λ x y z. tree.ForOf c.args.loc x y z) (made.made_target count left target) (made.next_target left target) (made.made_expr count (made.left_in left value) made.Alone value) (made.next_expr (made.left_in left value) false value) (made.made_looped count (heed left (stmt_place inner)) inner) from c.in_ok-target-in-ForOf.ensures.tree c.in_ok-target-in-ForOf.ensures.next c.in_ok-value-in-ForOf.ensures.tree c.in_ok-value-in-ForOf.ensures.next c.in_ok-inner-in-ForOf.ensures.tree)

pub statements::numbered_node-returns-in_ok-inner-in-ForOf-clause-next : goal.statements::numbered_node-returns-in_ok-inner-in-ForOf-clause-next
statements::numbered_node-returns-in_ok-inner-in-ForOf-clause-next t c k from =
    let left = heed_of c.args.site in
    let target = plain_for_target c.in-ForOf.target in
    let value = plain_expr c.in-ForOf.value in
    let inner = plain_stmt c.in-ForOf.inner in
    next_of_stmt left k (ap (λ (n : StmtNode). plain_stmt_node n c.args.loc) c.in-ForOf.is ∙ stmt_for_of _ _ _ _) (then_next (made.next_stmt (heed left (stmt_place inner)) inner) (then_next (made.next_expr (made.left_in left value) false value) (then_next (made.next_target left target) from c.in_ok-target-in-ForOf.ensures.next) c.in_ok-value-in-ForOf.ensures.next) c.in_ok-inner-in-ForOf.ensures.next)

pub statements::branching_node-returns-in_ok-clause-in-TryCatch-clause-before : goal.statements::branching_node-returns-in_ok-clause-in-TryCatch-clause-before
statements::branching_node-returns-in_ok-clause-in-TryCatch-clause-before t c k = ap (λ x. made.marks_before false (heed_of c.args.site) x k) (ap (λ (n : StmtNode). plain_stmt_node n c.args.loc) c.in-TryCatch.is ∙ stmt_try_catch _ _ _)

pub statements::branching_node-returns-in_ok-clause-in-TryCatch-clause-tree : goal.statements::branching_node-returns-in_ok-clause-in-TryCatch-clause-tree
statements::branching_node-returns-in_ok-clause-in-TryCatch-clause-tree t c k from =
    let left = heed_of c.args.site in
    let count = counter_of c.args.site in
    let list = plain_stmts c.in-TryCatch.list in
    let clause = plain_catch c.in-TryCatch.clause in
    of_stmt count false left k (ap (λ (n : StmtNode). plain_stmt_node n c.args.loc) c.in-TryCatch.is ∙ stmt_try_catch _ _ _)
    (stmt_try_catch _ _ _ ∙ two_parts (λ x y. tree.TryCatch c.args.loc x y) (made.made_stmts count true left list) (made.next_stmts left list) (made.made_catch count left clause) from c.in_ok-list-in-TryCatch.ensures.tree c.in_ok-list-in-TryCatch.ensures.next c.in_ok-clause-in-TryCatch.ensures.tree)

pub statements::branching_node-returns-in_ok-clause-in-TryCatch-clause-next : goal.statements::branching_node-returns-in_ok-clause-in-TryCatch-clause-next
statements::branching_node-returns-in_ok-clause-in-TryCatch-clause-next t c k from =
    let left = heed_of c.args.site in
    let list = plain_stmts c.in-TryCatch.list in
    let clause = plain_catch c.in-TryCatch.clause in
    next_of_stmt left k (ap (λ (n : StmtNode). plain_stmt_node n c.args.loc) c.in-TryCatch.is ∙ stmt_try_catch _ _ _) (then_next (made.next_catch left clause) (then_next (made.next_stmts left list) from c.in_ok-list-in-TryCatch.ensures.next) c.in_ok-clause-in-TryCatch.ensures.next)

pub statements::branching_node-returns-in_ok-last-in-TryFinally-clause-before : goal.statements::branching_node-returns-in_ok-last-in-TryFinally-clause-before
statements::branching_node-returns-in_ok-last-in-TryFinally-clause-before t c k = ap (λ x. made.marks_before false (heed_of c.args.site) x k) (ap (λ (n : StmtNode). plain_stmt_node n c.args.loc) c.in-TryFinally.is ∙ stmt_try_finally _ _ _)

pub statements::branching_node-returns-in_ok-last-in-TryFinally-clause-tree : goal.statements::branching_node-returns-in_ok-last-in-TryFinally-clause-tree
statements::branching_node-returns-in_ok-last-in-TryFinally-clause-tree t c k from =
    let left = heed_of c.args.site in
    let count = counter_of c.args.site in
    let list = plain_stmts c.in-TryFinally.list in
    let last = plain_stmts c.in-TryFinally.last in
    of_stmt count false left k (ap (λ (n : StmtNode). plain_stmt_node n c.args.loc) c.in-TryFinally.is ∙ stmt_try_finally _ _ _)
    (stmt_try_finally _ _ _ ∙ two_parts (λ x y. tree.TryFinally c.args.loc x y) (made.made_stmts count true left list) (made.next_stmts left list) (made.made_stmts count true left last) from c.in_ok-list-in-TryFinally.ensures.tree c.in_ok-list-in-TryFinally.ensures.next c.in_ok-last-in-TryFinally.ensures.tree)

pub statements::branching_node-returns-in_ok-last-in-TryFinally-clause-next : goal.statements::branching_node-returns-in_ok-last-in-TryFinally-clause-next
statements::branching_node-returns-in_ok-last-in-TryFinally-clause-next t c k from =
    let left = heed_of c.args.site in
    let list = plain_stmts c.in-TryFinally.list in
    let last = plain_stmts c.in-TryFinally.last in
    next_of_stmt left k (ap (λ (n : StmtNode). plain_stmt_node n c.args.loc) c.in-TryFinally.is ∙ stmt_try_finally _ _ _) (then_next (made.next_stmts left last) (then_next (made.next_stmts left list) from c.in_ok-list-in-TryFinally.ensures.next) c.in_ok-last-in-TryFinally.ensures.next)

pub statements::branching_node-returns-in_ok-last-in-TryCatchFinally-clause-before : goal.statements::branching_node-returns-in_ok-last-in-TryCatchFinally-clause-before
statements::branching_node-returns-in_ok-last-in-TryCatchFinally-clause-before t c k = ap (λ x. made.marks_before false (heed_of c.args.site) x k) (ap (λ (n : StmtNode). plain_stmt_node n c.args.loc) c.in-TryCatchFinally.is ∙ stmt_try_catch_finally _ _ _ _)

pub statements::branching_node-returns-in_ok-last-in-TryCatchFinally-clause-tree : goal.statements::branching_node-returns-in_ok-last-in-TryCatchFinally-clause-tree
statements::branching_node-returns-in_ok-last-in-TryCatchFinally-clause-tree t c k from =
    let left = heed_of c.args.site in
    let count = counter_of c.args.site in
    let list = plain_stmts c.in-TryCatchFinally.list in
    let clause = plain_catch c.in-TryCatchFinally.clause in
    let last = plain_stmts c.in-TryCatchFinally.last in
    of_stmt count false left k (ap (λ (n : StmtNode). plain_stmt_node n c.args.loc) c.in-TryCatchFinally.is ∙ stmt_try_catch_finally _ _ _ _)
    (stmt_try_catch_finally _ _ _ _ ∙ three_parts (λ x y z. tree.TryCatchFinally c.args.loc x y z) (made.made_stmts count true left list) (made.next_stmts left list) (made.made_catch count left clause) (made.next_catch left clause) (made.made_stmts count true left last) from c.in_ok-list-in-TryCatchFinally.ensures.tree c.in_ok-list-in-TryCatchFinally.ensures.next c.in_ok-clause-in-TryCatchFinally.ensures.tree c.in_ok-clause-in-TryCatchFinally.ensures.next c.in_ok-last-in-TryCatchFinally.ensures.tree)

pub statements::branching_node-returns-in_ok-last-in-TryCatchFinally-clause-next : goal.statements::branching_node-returns-in_ok-last-in-TryCatchFinally-clause-next
statements::branching_node-returns-in_ok-last-in-TryCatchFinally-clause-next t c k from =
    let left = heed_of c.args.site in
    let list = plain_stmts c.in-TryCatchFinally.list in
    let clause = plain_catch c.in-TryCatchFinally.clause in
    let last = plain_stmts c.in-TryCatchFinally.last in
    next_of_stmt left k (ap (λ (n : StmtNode). plain_stmt_node n c.args.loc) c.in-TryCatchFinally.is ∙ stmt_try_catch_finally _ _ _ _) (then_next (made.next_stmts left last) (then_next (made.next_catch left clause) (then_next (made.next_stmts left list) from c.in_ok-list-in-TryCatchFinally.ensures.next) c.in_ok-clause-in-TryCatchFinally.ensures.next) c.in_ok-last-in-TryCatchFinally.ensures.next)

pub expressions::expression_node-returns-in_ok-other-in-Logical-clause-tree : goal.expressions::expression_node-returns-in_ok-other-in-Logical-clause-tree
expressions::expression_node-returns-in_ok-other-in-Logical-clause-tree t c =
    let left = heed_of c.args.site in
    let count = counter_of c.args.site in
    let branch = c.in_ok-branch-in-Logical.ensures in
    let one = c.in_ok-one-in-Logical.ensures in
    of_expr count left (counts_of c.args.numbers.now) (ap (λ (n : ExprNode). plain_expr_node n c.args.loc) c.in-Logical.is ∙ expr_logical _ _ _ _)
    (expr_logical _ _ _ _ ∙ logical_made count left (tree.Logical c.args.loc c.in-Logical.operator) (plain_expr c.in-Logical.one) (plain_expr c.in-Logical.other) 0 branch.number branch.next one.tree one.path one.next c.in_ok-other-in-Logical.ensures.tree)

pub expressions::expression_node-returns-in_ok-other-in-Logical-clause-next : goal.expressions::expression_node-returns-in_ok-other-in-Logical-clause-next
expressions::expression_node-returns-in_ok-other-in-Logical-clause-next t c =
    let left = heed_of c.args.site in
    let one = plain_expr c.in-Logical.one in
    let other = plain_expr c.in-Logical.other in
    next_of_expr left (counts_of c.args.numbers.now) (ap (λ (n : ExprNode). plain_expr_node n c.args.loc) c.in-Logical.is ∙ expr_logical _ _ _ _)
    (then_next (made.next_expr (made.left_in left other) true other) (then_next (made.next_expr (made.left_in left one) true one) c.in_ok-branch-in-Logical.ensures.next c.in_ok-one-in-Logical.ensures.next) c.in_ok-other-in-Logical.ensures.next)

pub statements::branching_node-returns-in_ok-list-in-Switch-clause-before : goal.statements::branching_node-returns-in_ok-list-in-Switch-clause-before
statements::branching_node-returns-in_ok-list-in-Switch-clause-before t c k = ap (λ x. made.marks_before false (heed_of c.args.site) x k) (ap (λ (n : StmtNode). plain_stmt_node n c.args.loc) c.in-Switch.is ∙ stmt_switch _ _ _)

pub statements::branching_node-returns-in_ok-list-in-Switch-clause-tree : goal.statements::branching_node-returns-in_ok-list-in-Switch-clause-tree
statements::branching_node-returns-in_ok-list-in-Switch-clause-tree t c k from =
    let left = heed_of c.args.site in
    let count = counter_of c.args.site in
    let branch = c.in_ok-branch-in-Switch.ensures in
    let value = c.in_ok-value-in-Switch.ensures in
    of_stmt count false left k (ap (λ (n : StmtNode). plain_stmt_node n c.args.loc) c.in-Switch.is ∙ stmt_switch _ _ _)
    (stmt_switch _ _ _ ∙ switch_made count left c.args.loc (plain_expr c.in-Switch.value) (plain_cases c.in-Switch.list) k from branch.number branch.next value.tree value.next c.in_ok-list-in-Switch.ensures.tree)

pub statements::branching_node-returns-in_ok-list-in-Switch-clause-next : goal.statements::branching_node-returns-in_ok-list-in-Switch-clause-next
statements::branching_node-returns-in_ok-list-in-Switch-clause-next t c k from =
    let left = heed_of c.args.site in
    let value = plain_expr c.in-Switch.value in
    next_of_stmt left k (ap (λ (n : StmtNode). plain_stmt_node n c.args.loc) c.in-Switch.is ∙ stmt_switch _ _ _)
    (then_next (made.next_cases left (plain_cases c.in-Switch.list)) (then_next (made.next_expr (made.left_in left value) false value)
    (then_next (made.after construct_kind.Branch left c.args.loc) from c.in_ok-branch-in-Switch.ensures.next) c.in_ok-value-in-Switch.ensures.next) c.in_ok-list-in-Switch.ensures.next)

pub statements::statement_node-counted_node-requires : goal.statements::statement_node-counted_node-requires
statements::statement_node-counted_node-requires t c = (grind (arith, common_steps), counted_else c.args.node c.args.loc c.in_default.not-Directive c.in_default.not-Block c.in_default.not-VariableDeclaration c.in_default.not-Empty c.in_default.not-Labelled c.in_default.not-FunctionDeclaration)

pub statements::numbered_node-branching_node-requires : goal.statements::numbered_node-branching_node-requires
statements::numbered_node-branching_node-requires t c = (grind (arith, common_steps), branching_else c.args.node c.args.loc c.in_default.not-Expression c.in_default.not-DoWhile c.in_default.not-While c.in_default.not-For c.in_default.not-ForIn c.in_default.not-ForOf c.in_default.not-Continue c.in_default.not-Break c.in_default.not-Return c.in_default.not-Throw c.in_default.not-Debugger c.requires)

pub expressions::chained_node-counted_leaf-requires : goal.expressions::chained_node-counted_leaf-requires
expressions::chained_node-counted_leaf-requires t c = (grind (arith, common_steps), leaf_else c.args.node c.args.loc c.in_default.not-Logical c.in_default.not-Parenthesized)

pub expressions::part-returns-clause-tree : goal.expressions::part-returns-clause-tree
expressions::part-returns-clause-tree t c =
    let e = plain_expr c.args.x in
    let k = counts_of c.args.numbers.now in
    let here = c.within.ensures.left ∙ ap (heed (heed_of c.args.site)) (c.place_as_written.ensures ∙ ap (λ v. expr_place (plain_expr v)) c.get.ensures) in
    IfOk-weaker c.boxed.result (λ r. plain_expr r ≡ made.made_expr (counter_of c.within.result) (heed_of c.within.result) made.Alone e k)
    (λ r. plain_expr r ≡ made.made_expr (counter_of c.args.site) (made.left_in (heed_of c.args.site) e) made.Alone e k)
    (λ r h. value_at made.Alone e k c.within.ensures.counter here h) c.boxed.ensures.tree

pub expressions::operand-returns-clause-tree : goal.expressions::operand-returns-clause-tree
expressions::operand-returns-clause-tree t c =
    let e = plain_expr c.args.x in
    let k = counts_of c.args.numbers.now in
    let among = made.Among c.args.branch c.args.path in
    let here = c.within-inner.ensures.left ∙ ap (heed (heed_of c.args.site)) (c.place_as_written.ensures ∙ ap (λ v. expr_place (plain_expr v)) c.get.ensures) in
    let leaf_in : (Mark → tree.Expr) → Heed → tree.Expr = λ n l. made.leaf n l among e (made.made_expr n l among e k) in
    IfOk-weaker c.chained.result (λ r. plain_expr r.value ≡ leaf_in (counter_of c.within-inner.result) (heed_of c.within-inner.result))
    (λ r. plain_expr r.value ≡ leaf_in (counter_of c.args.site) (made.left_in (heed_of c.args.site) e))
    (λ r h. leaf_at among e k c.within-inner.ensures.counter here h) c.chained.ensures.tree

pub expressions::template_part-returns-clause-tree : goal.expressions::template_part-returns-clause-tree
expressions::template_part-returns-clause-tree t c =
    let k = counts_of c.args.numbers.now in
    let e = plain_expr c.args.x.value in
    let here = c.within-inner.ensures.left ∙ ap (heed (heed_of c.args.site)) c.place_as_written.ensures in
    same_of (λ x. made.made_part (counter_of c.args.site) (heed_of c.args.site) x k) (template_part_made c.args.x)
    (template_part_rolled _ ∙ ap (λ v. tree.MakeTemplatePart v c.args.x.text) (value_at made.Alone e k c.within-inner.ensures.counter here c.in_ok-value.ensures.tree))

pub expressions::property-returns-in_ok-method-in-Method-clause-tree : goal.expressions::property-returns-in_ok-method-in-Method-clause-tree
expressions::property-returns-in_ok-method-in-Method-clause-tree t c =
    let f = plain_function c.in-Method.method in
    let place = c.function_place-place.ensures ∙ ap (function_place c.args.x.loc None) (c.place_of_body.ensures ∙ ap (λ m. body_place (plain_function m)) c.get.ensures) in
    let counters = c.in_ok-counters-in-Method.ensures in
    let key = c.in_ok-key-in-Method.ensures in
    same_of (λ x. made.made_property (counter_of c.args.site) (heed_of c.args.site) x (counts_of c.args.numbers.now))
    (property_made c.args.x ∙ ap (λ (n : PropertyNode). plain_property_node n c.args.x.loc) c.in-Method.is ∙ property_method _ _ _)
    (property_rolled _ ∙ property_method _ _ _ ∙ method_made (counter_of c.args.site) (heed_of c.args.site) c.args.x.loc (plain_property_key c.in-Method.key) f (counts_of c.args.numbers.now)
    place counters.counters counters.next key.tree key.next c.in_ok-method-in-Method.ensures.tree)

pub expressions::property-returns-in_ok-method-in-Method-clause-next : goal.expressions::property-returns-in_ok-method-in-Method-clause-next
expressions::property-returns-in_ok-method-in-Method-clause-next t c =
    let f = plain_function c.in-Method.method in
    let place = c.function_place-place.ensures ∙ ap (function_place c.args.x.loc None) (c.place_of_body.ensures ∙ ap (λ m. body_place (plain_function m)) c.get.ensures) in
    same_of (λ x. made.next_property (heed_of c.args.site) x (counts_of c.args.numbers.now))
    (property_made c.args.x ∙ ap (λ (n : PropertyNode). plain_property_node n c.args.x.loc) c.in-Method.is ∙ property_method _ _ _)
    (method_numbers (heed_of c.args.site) c.args.x.loc (plain_property_key c.in-Method.key) f (counts_of c.args.numbers.now)
    place c.in_ok-counters-in-Method.ensures.next c.in_ok-key-in-Method.ensures.next c.in_ok-method-in-Method.ensures.next)

pub expressions::expression_node-returns-in_ok-fails-in-Conditional-clause-tree : goal.expressions::expression_node-returns-in_ok-fails-in-Conditional-clause-tree
expressions::expression_node-returns-in_ok-fails-in-Conditional-clause-tree t c =
    let left = heed_of c.args.site in
    let count = counter_of c.args.site in
    let k = counts_of c.args.numbers.now in
    let e = plain_expr c.in-Conditional.test in
    let f = plain_expr c.in-Conditional.holds in
    let g = plain_expr c.in-Conditional.fails in
    let branch = c.in_ok-branch-in-Conditional.ensures in
    let test = c.in_ok-test-in-Conditional.ensures in
    let holds = c.in_ok-holds-in-Conditional.ensures in
    let first = c.within-first.ensures.left ∙ ap (heed left) (c.place_as_written.ensures ∙ ap (λ v. expr_place (plain_expr v)) c.get-in-Conditional.ensures) in
    let second = c.within-second.ensures.left ∙ ap (heed left) (c.place_as_written-in-Conditional.ensures ∙ ap (λ v. expr_place (plain_expr v)) c.get-in-Conditional-2.ensures) in
    of_expr count left k (ap (λ (n : ExprNode). plain_expr_node n c.args.loc) c.in-Conditional.is ∙ expr_conditional _ _ _ _)
    (expr_conditional _ _ _ _ ∙ conditional_made count left c.args.loc e f g k branch.number branch.next first second test.tree test.next
    (path_at (heed_of c.within-first.result) c.in_ok-branch-in-Conditional.branch 0 f (counts_of c.part-in-Conditional.new.numbers) c.within-first.ensures.counter holds.tree) holds.next c.in_ok-past-in-Conditional.ensures
    (path_at (heed_of c.within-second.result) c.in_ok-branch-in-Conditional.branch c.in_ok-past-in-Conditional.field-0 g (counts_of c.by_path.new.numbers) c.within-second.ensures.counter
    c.in_ok-fails-in-Conditional.ensures.tree))

pub expressions::expression_node-returns-in_ok-fails-in-Conditional-clause-next : goal.expressions::expression_node-returns-in_ok-fails-in-Conditional-clause-next
expressions::expression_node-returns-in_ok-fails-in-Conditional-clause-next t c =
    let left = heed_of c.args.site in
    let k = counts_of c.args.numbers.now in
    let first = c.within-first.ensures.left ∙ ap (heed left) (c.place_as_written.ensures ∙ ap (λ v. expr_place (plain_expr v)) c.get-in-Conditional.ensures) in
    let second = c.within-second.ensures.left ∙ ap (heed left) (c.place_as_written-in-Conditional.ensures ∙ ap (λ v. expr_place (plain_expr v)) c.get-in-Conditional-2.ensures) in
    next_of_expr left k (ap (λ (n : ExprNode). plain_expr_node n c.args.loc) c.in-Conditional.is ∙ expr_conditional _ _ _ _)
    (conditional_next left c.args.loc (plain_expr c.in-Conditional.test) (plain_expr c.in-Conditional.holds) (plain_expr c.in-Conditional.fails) k c.in_ok-branch-in-Conditional.ensures.next first second
    c.in_ok-test-in-Conditional.ensures.next c.in_ok-holds-in-Conditional.ensures.next c.in_ok-fails-in-Conditional.ensures.next)

pub statements::statement_node-returns-in_ok-inner-in-Labelled-clause-tree : goal.statements::statement_node-returns-in_ok-inner-in-Labelled-clause-tree
statements::statement_node-returns-in_ok-inner-in-Labelled-clause-tree t c =
    let left = heed_of c.args.site in
    let count = counter_of c.args.site in
    let label = c.in-Labelled.label in
    let x = plain_stmt c.in-Labelled.inner in
    let inner = c.within-within.ensures.left ∙ ap (heed left) (c.place_of_stmt.ensures ∙ ap (λ v. stmt_place (plain_stmt v)) c.get.ensures) in
    let body = ap plain_stmt c.in_ok-inner-in-Labelled.ensures ∙ c.in_ok-made-in-Labelled.ensures.tree
    ∙ ap (λ v. made.made_stmt (counter_of c.within-within.result) false (heed_of c.within-within.result) (plain_stmt v) (counts_of c.own_counter.new.numbers)) c.into_inner.ensures in
    of_stmt count c.args.home left (counts_of c.args.numbers.now) (ap (λ (n : StmtNode). plain_stmt_node n c.args.loc) c.in-Labelled.is ∙ stmt_labelled _ _ _)
    (stmt_labelled _ _ _ ∙ ap (tree.Labelled c.args.loc label) (stmt_at x (counts_of c.own_counter.new.numbers) c.within-within.ensures.counter inner body
    ∙ ap (made.made_stmt count false (heed left (stmt_place x)) x) c.in_ok-counters-in-Labelled.ensures.next))

pub statements::statement_node-returns-in_default : goal.statements::statement_node-returns-in_default
statements::statement_node-returns-in_default t c =
    let left = heed_of c.args.site in
    let count = counter_of c.args.site in
    let x = plain_stmt_node c.args.node c.args.loc in
    let k = counts_of c.args.numbers.now in
    let counted = counted_else c.args.node c.args.loc c.in_default.not-Directive c.in_default.not-Block c.in_default.not-VariableDeclaration c.in_default.not-Empty c.in_default.not-Labelled c.in_default.not-FunctionDeclaration in
    record {
      before = subst (λ ms. IfOk c.counted_node.result (λ r. plain_stmts r.counters ≡ counts count ms)) (sym (counted_before c.args.home left x k counted)) c.counted_node.ensures.before;
      tree = subst (λ s. IfOk c.counted_node.result (λ r. plain_stmt_node r.node c.args.loc ≡ s)) (sym (counted_made count c.args.home left x k counted)) c.counted_node.ensures.tree;
      next = c.counted_node.ensures.next;
    }

pub statements::body-returns-clause-tree : goal.statements::body-returns-clause-tree
statements::body-returns-clause-tree t c =
    let left = heed_of c.args.site in
    let count = counter_of c.args.site in
    let k = counts_of c.args.numbers.now in
    let x = plain_stmt c.args.x in
    let opened = c.in_ok-opened.ensures in
    let inner = c.within-inner.ensures.left ∙ ap (heed left) (c.place_of_stmt.ensures ∙ ap (λ v. stmt_place (plain_stmt v)) c.get.ensures) in
    let before = counts_at _ c.within-inner.ensures.counter opened.before
    ∙ ap (λ v. counts count (made.marks_before false (heed_of c.within-inner.result) (plain_stmt v) k)) c.into_inner.ensures ∙ ap (λ l. counts count (made.marks_before false l x k)) inner in
    let body = stmt_at x k c.within-inner.ensures.counter inner
    (opened.tree ∙ ap (λ v. made.made_stmt (counter_of c.within-inner.result) false (heed_of c.within-inner.result) (plain_stmt v) k) c.into_inner.ensures) in
    IfOk-weaker c.new.result (λ r. r ≡ c.in_ok-made.made) (λ r. plain_stmt r ≡ made.made_looped count (heed left (stmt_place x)) x k)
    (λ r same. looped_made count (heed left (stmt_place x)) x k before body (ap plain_stmt same ∙ c.in_ok-made.ensures)) c.new.ensures

pub statements::branching_node-returns-in_ok-then-in-If-2-clause-tree : goal.statements::branching_node-returns-in_ok-then-in-If-2-clause-tree
statements::branching_node-returns-in_ok-then-in-If-2-clause-tree t c k from =
    let left = heed_of c.args.site in
    let count = counter_of c.args.site in
    let e = plain_expr c.in-If.test in
    let x = plain_stmt c.in-If.then in
    let y = plain_stmt_if c.in-If.otherwise in
    let branch = c.in_ok-branch-in-If.ensures in
    let test = c.in_ok-test-in-If.ensures in
    let then = c.in_ok-then-in-If.ensures in
    let otherwise = c.in_ok-otherwise-in-If.ensures in
    let arms = c.in_ok-then-in-If-2.ensures in
    let first = c.within-holds.ensures.counter ∙ c.within_arm.ensures.counter in
    let second = c.within-fails.ensures.counter ∙ c.within_arm-in-If.ensures.counter in
    let holds = c.within-holds.ensures.left ∙ ap (λ l. heed l c.place_of_stmt.result) c.within_arm.ensures.left
    ∙ ap (heed (heed_arm hint.If left c.args.loc)) (c.place_of_stmt.ensures ∙ ap (λ v. stmt_place (plain_stmt v)) c.get.ensures) in
    let fails = c.within-fails.ensures.left ∙ ap (λ l. heed l c.place_of_arm.result) c.within_arm-in-If.ensures.left
    ∙ ap (heed (heed_arm hint.Else left c.args.loc)) c.place_of_arm.ensures in
    of_stmt count false left k (ap (λ (n : StmtNode). plain_stmt_node n c.args.loc) c.in-If.is ∙ stmt_if _ _ _ _)
    (stmt_if _ _ _ _ ∙ if_made count left c.args.loc e x y k from branch.number branch.next test.tree test.next holds fails
    (counts_at _ first then.before) (stmt_at x (counts_of c.part.new.numbers) first refl then.tree) then.next c.in_ok-past-in-If.ensures
    (counts_at _ second otherwise.before) (arm_at _ y _ second otherwise.tree) arms.then arms.otherwise)

pub functions::param-returns-in_ok-value-in-Some-3-clause-tree : goal.functions::param-returns-in_ok-value-in-Some-3-clause-tree
functions::param-returns-in_ok-value-in-Some-3-clause-tree t c =
    let x = out-Param c.args.x in
    let left = heed_of c.args.site in
    let count = counter_of c.args.site in
    let pattern = plain_pattern x.pattern in
    let e = plain_expr c.in-Some.value in
    let here = c.within-inner.ensures.left ∙ ap (heed left) (c.place_as_written.ensures ∙ ap (λ v. expr_place (plain_expr v)) c.get.ensures) in
    let branch = c.in_ok-branch-in-Some.ensures in
    let value = value_at made.Alone e (counts_of c.take.new.self) c.within-inner.ensures.counter here
    (c.in_ok-value-in-Some.ensures.tree ∙ ap (λ v. made.made_expr (counter_of c.within-inner.result) (heed_of c.within-inner.result) made.Alone (plain_expr v) (counts_of c.take.new.self)) c.into_inner.ensures)
    ∙ ap (made.made_expr count (made.left_in left e) made.Alone e) branch.next in
    same_of (λ x. made.made_param count left x (counts_of c.args.numbers.now))
    (param_made c.args.x ∙ ap (λ d. tree.MakeParam x.loc pattern (plain_expr_if d)) c.in-Some.is ∙ ap (tree.MakeParam x.loc pattern) (expr_if_some _))
    (param_rolled _ ∙ ap (tree.MakeParam x.loc pattern) (expr_if_some _) ∙ default_made count left x.loc pattern e (counts_of c.args.numbers.now) branch.number
    (c.in_branch-number.ensures ∙ ap (λ l. made.branch_in l c.in_ok-branch-in-Some.branch) here) (c.needs_hold-anonymous.ensures ∙ ap (λ v. is_anonymous (plain_expr v)) c.get-in-Some.ensures)
    value (ap plain_expr c.in_ok-value-in-Some-3.ensures ∙ c.in_ok-value-in-Some-2.ensures))

pub functions::param-returns-in_ok-value-in-Some-3-clause-next : goal.functions::param-returns-in_ok-value-in-Some-3-clause-next
functions::param-returns-in_ok-value-in-Some-3-clause-next t c =
    let x = out-Param c.args.x in
    let left = heed_of c.args.site in
    let pattern = plain_pattern x.pattern in
    let e = plain_expr c.in-Some.value in
    let here = c.within-inner.ensures.left ∙ ap (heed left) (c.place_as_written.ensures ∙ ap (λ v. expr_place (plain_expr v)) c.get.ensures) in
    same_of (λ x. made.next_param left x (counts_of c.args.numbers.now))
    (param_made c.args.x ∙ ap (λ d. tree.MakeParam x.loc pattern (plain_expr_if d)) c.in-Some.is ∙ ap (tree.MakeParam x.loc pattern) (expr_if_some _))
    (c.in_ok-value-in-Some.ensures.next ∙ ap (λ v. made.next_expr (heed_of c.within-inner.result) false (plain_expr v) (counts_of c.take.new.self)) c.into_inner.ensures
    ∙ ap (λ l. made.next_expr l false e (counts_of c.take.new.self)) here ∙ ap (made.next_expr (made.left_in left e) false e) c.in_ok-branch-in-Some.ensures.next)

pub functions::concise_body-returns-in_ok-returning-in-ExpressionBody-clause-tree : goal.functions::concise_body-returns-in_ok-returning-in-ExpressionBody-clause-tree
functions::concise_body-returns-in_ok-returning-in-ExpressionBody-clause-tree t c =
    let left = heed_of c.args.site in
    let count = counter_of c.args.site in
    let zs = plain_stmts c.args.counters in
    let k = counts_of c.args.numbers.now in
    let e = plain_expr c.in-ExpressionBody.value in
    let here = c.within-inner.ensures.left ∙ ap (heed left) c.place_as_written.ensures in
    let more = c.in_ok-more-in-ExpressionBody.ensures in
    let counters = counts_at _ c.within-inner.ensures.counter more.counters ∙ ap (λ l. counts count (made.own_marks construct_kind.Statement l c.place_of_expr-place.result k)) here
    ∙ ap (λ p. counts count (made.own_marks construct_kind.Statement (made.left_in left e) p k)) c.place_of_expr-place.ensures in
    let value = value_at made.Alone e (counts_of c.own_counter.new.numbers) c.within-inner.ensures.counter here c.in_ok-value-in-ExpressionBody.ensures.tree
    ∙ ap (made.made_expr count (made.left_in left e) made.Alone e) (more.next ∙ ap (λ l. made.after construct_kind.Statement l c.place_of_expr-place.result k) here
    ∙ ap (λ p. made.after construct_kind.Statement (made.left_in left e) p k) c.place_of_expr-place.ensures) in
    IfOk-weaker c.new.result (λ r. r ≡ c.in_ok-returning-in-ExpressionBody.field-0) (λ r. plain_concise_body r ≡ made.made_concise count left zs (plain_concise_body c.args.x) k)
    (λ r same. same_of (λ x. made.made_concise count left zs x k) (ap plain_concise_body (sym c.into_inner.ensures ∙ c.in-ExpressionBody.is) ∙ concise_body_expression_body _)
    (ap plain_concise_body same ∙ c.in_ok-returning-in-ExpressionBody.ensures ∙ concise_made count left zs e k counters value)) c.new.ensures

pub declarations::declarator-returns-in_ok-value-in-Some-2-clause-tree : goal.declarations::declarator-returns-in_ok-value-in-Some-2-clause-tree
declarations::declarator-returns-in_ok-value-in-Some-2-clause-tree t c =
    let x = out-Declarator c.args.x in
    let left = heed_of c.args.site in
    let count = counter_of c.args.site in
    let k = counts_of c.args.numbers.now in
    let pattern = plain_pattern x.pattern in
    let e = plain_expr c.in-Some.value in
    let here = c.within-inner.ensures.left ∙ ap (heed left) (c.place_as_written.ensures ∙ ap (λ v. expr_place (plain_expr v)) c.get.ensures) in
    let place = c.place_of_expr-place.ensures ∙ ap (λ v. bare_place (plain_expr v)) c.get-in-Some.ensures in
    let number = c.in_ok-number-in-Some.ensures in
    let made_value = value_at made.Alone e (counts_of c.take.new.self) c.within-inner.ensures.counter here
    (c.in_ok-value-in-Some.ensures.tree ∙ ap (λ v. made.made_expr (counter_of c.within-inner.result) (heed_of c.within-inner.result) made.Alone (plain_expr v) (counts_of c.take.new.self)) c.into_inner.ensures)
    ∙ ap (made.made_expr count (made.left_in left e) made.Alone e) (number.next ∙ ap (λ l. made.after construct_kind.Statement l c.place_of_expr-place.result k) here
    ∙ ap (λ p. made.after construct_kind.Statement (made.left_in left e) p k) place) in
    same_of (λ x. made.made_declarator count c.args.hoists left x k)
    (declarator_made c.args.x ∙ ap (λ d. tree.MakeDeclarator x.loc pattern (plain_expr_if d)) c.in-Some.is ∙ ap (tree.MakeDeclarator x.loc pattern) (expr_if_some _))
    (declarator_rolled _ ∙ ap (tree.MakeDeclarator x.loc pattern) (expr_if_some _) ∙ initializer_made count c.args.hoists left x.loc pattern e k
    (number.number ∙ ap (λ l. made.number construct_kind.Statement l c.place_of_expr-place.result k) here ∙ ap (λ p. made.number construct_kind.Statement (made.left_in left e) p k) place)
    (c.needs_hold-anonymous.ensures ∙ ap (λ v. is_anonymous (plain_expr v)) c.get-in-Some-2.ensures) made_value
    (ap plain_expr c.in_ok-value-in-Some-2.ensures ∙ c.in_ok-counters-in-Some.ensures.value))

pub declarations::declarator-returns-in_ok-value-in-Some-2-clause-next : goal.declarations::declarator-returns-in_ok-value-in-Some-2-clause-next
declarations::declarator-returns-in_ok-value-in-Some-2-clause-next t c =
    let x = out-Declarator c.args.x in
    let left = heed_of c.args.site in
    let k = counts_of c.args.numbers.now in
    let pattern = plain_pattern x.pattern in
    let e = plain_expr c.in-Some.value in
    let here = c.within-inner.ensures.left ∙ ap (heed left) (c.place_as_written.ensures ∙ ap (λ v. expr_place (plain_expr v)) c.get.ensures) in
    let place = c.place_of_expr-place.ensures ∙ ap (λ v. bare_place (plain_expr v)) c.get-in-Some.ensures in
    same_of (λ x. made.next_declarator left x k)
    (declarator_made c.args.x ∙ ap (λ d. tree.MakeDeclarator x.loc pattern (plain_expr_if d)) c.in-Some.is ∙ ap (tree.MakeDeclarator x.loc pattern) (expr_if_some _))
    (c.in_ok-value-in-Some.ensures.next ∙ ap (λ v. made.next_expr (heed_of c.within-inner.result) false (plain_expr v) (counts_of c.take.new.self)) c.into_inner.ensures
    ∙ ap (λ l. made.next_expr l false e (counts_of c.take.new.self)) here
    ∙ ap (made.next_expr (made.left_in left e) false e) (c.in_ok-number-in-Some.ensures.next ∙ ap (λ l. made.after construct_kind.Statement l c.place_of_expr-place.result k) here
    ∙ ap (λ p. made.after construct_kind.Statement (made.left_in left e) p k) place))

pub expressions::expression_node-returns-in_ok-body-in-ArrowFunction-clause-tree : goal.expressions::expression_node-returns-in_ok-body-in-ArrowFunction-clause-tree
expressions::expression_node-returns-in_ok-body-in-ArrowFunction-clause-tree t c =
    let left = heed_of c.args.site in
    let count = counter_of c.args.site in
    let k = counts_of c.args.numbers.now in
    let body = plain_concise_body c.in-ArrowFunction.body in
    let place = c.function_place-place-in-ArrowFunction.ensures
    ∙ ap (function_place c.args.loc None) (c.place_of_concise.ensures ∙ ap (λ b. concise_place (plain_concise_body b)) c.get-in-ArrowFunction.ensures) in
    let counters = c.in_ok-counters-in-ArrowFunction.ensures in
    let list = c.in_ok-list-in-ArrowFunction.ensures in
    of_expr count left k (ap (λ (n : ExprNode). plain_expr_node n c.args.loc) c.in-ArrowFunction.is ∙ expr_arrow_function _ _ _)
    (expr_arrow_function _ _ _ ∙ arrow_made count left c.args.loc (plain_params c.in-ArrowFunction.list) body k place counters.counters counters.next list.tree list.next c.in_ok-body-in-ArrowFunction.ensures.tree)

pub expressions::expression_if-returns-in_ok-made-in-Some-2-clause-tree : goal.expressions::expression_if-returns-in_ok-made-in-Some-2-clause-tree
expressions::expression_if-returns-in_ok-made-in-Some-2-clause-tree t c =
    let left = heed_of c.args.site in
    let k = counts_of c.args.numbers.now in
    let e = plain_expr c.in-Some.value in
    let here = c.within-inner.ensures.left ∙ ap (heed left) (c.place_as_written.ensures ∙ ap (λ v. expr_place (plain_expr v)) c.get.ensures) in
    let value = value_at made.Alone e k c.within-inner.ensures.counter here
    (c.in_ok-made-in-Some.ensures.tree ∙ ap (λ v. made.made_expr (counter_of c.within-inner.result) (heed_of c.within-inner.result) made.Alone (plain_expr v) k) c.into_inner.ensures) in
    same_of (λ x. made.made_maybe (counter_of c.args.site) left x k) (ap plain_expr_if c.in-Some.is ∙ expr_if_some _)
    (expr_if_some _ ∙ ap tree.some_expr (ap plain_expr c.in_ok-made-in-Some-2.ensures ∙ value))

pub expressions::expression_if-returns-in_ok-made-in-Some-2-clause-next : goal.expressions::expression_if-returns-in_ok-made-in-Some-2-clause-next
expressions::expression_if-returns-in_ok-made-in-Some-2-clause-next t c =
    let left = heed_of c.args.site in
    let k = counts_of c.args.numbers.now in
    let here = c.within-inner.ensures.left ∙ ap (heed left) (c.place_as_written.ensures ∙ ap (λ v. expr_place (plain_expr v)) c.get.ensures) in
    same_of (λ x. made.next_maybe left x k) (ap plain_expr_if c.in-Some.is ∙ expr_if_some _)
    (c.in_ok-made-in-Some.ensures.next ∙ ap (λ v. made.next_expr (heed_of c.within-inner.result) false (plain_expr v) k) c.into_inner.ensures
    ∙ ap (λ l. made.next_expr l false (plain_expr c.in-Some.value) k) here)
