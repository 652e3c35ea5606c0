-- What each function compiles.
use Rattle.std.proofs.Common.{None, arith, refl}
use Rattle.js_tree.proofs.Equations as tree
use Rattle.js_tree.specs.Linked as linked
use Rattle.js_code.proofs.Kept.{kept_five, kept_four, kept_one, kept_seven, kept_six, kept_three, kept_two, lacking}
use Rattle.js_code.proofs.Made.{placed_on}
use Rattle.js_code.proofs.Lists.{held, list_begins}
use Rattle.js_code.proofs.KindsOfLists.{places_below, cases_are, cases_end, cases_go_on, cases_kind, declarators_are, declarators_end, declarators_go_on, declarators_kind, exprs_are, exprs_end, exprs_go_on, exprs_kind, params_are, params_end, params_go_on, params_kind, properties_are, properties_end, properties_go_on, properties_kind, stmts_are, stmts_end, stmts_go_on, stmts_kind, template_parts_are, template_parts_end, template_parts_go_on, template_parts_kind}
use Rattle.js_code.proofs.Functions.{arrow_block_compiled, arrow_expression_compiled, function_compiled, method_below, method_made, on_noted}
use Rattle.js_code.proofs.Special.{arrow_function_made, case_scope_made, init_declaration_made, labelled_made, logical_made, no_expr_made, no_stmt_made, parenthesized_made, reads_of, reads_on, scope_made, some_expr_made, some_stmt_made}
use Rattle.js_code.proofs.Forms.{array_literal_made, assignment_made, binary_made, block_made, boolean_literal_made, break_made, call_made, case_made, catch_made, catch_name_made, comma_made, computed_key_made, computed_member_made, conditional_made, continue_made, debugger_made, declarator_made, directive_made, do_while_made, empty_made, expression_made, for_in_made, for_made, for_of_made, function_declaration_made, function_expression_made, identifier_reference_made, if_made, init_expression_made, key_value_made, name_key_made, named_member_made, new_made, no_init_made, null_literal_made, number_key_made, numeric_literal_made, object_literal_made, param_made, postfix_update_made, prefix_update_made, regular_expression_literal_made, return_made, shorthand_made, string_key_made, string_literal_made, switch_made, target_declaration_made, target_expression_made, template_literal_made, template_part_made, this_made, throw_made, try_catch_finally_made, try_catch_made, try_finally_made, unary_made, variable_declaration_made, while_made}
use Rattle.js_code.proofs.compile.+compile.Goals as goal

pub expr-returns-in-Ok : goal.expr-returns-in-Ok
expr-returns-in-Ok t c = kept_one c.push.ensures (λ h0. identifier_reference_made c.args.code.now c.push.new.code c.in-Ok.ensures h0 (grind (arith, tree.expr_made, tree.expr_identifier_reference)))

pub expr-returns-in-This : goal.expr-returns-in-This
expr-returns-in-This t c = kept_one c.push-in-This.ensures (λ h0. this_made c.args.code.now c.push-in-This.new.code h0 (grind (arith, tree.expr_made, tree.expr_this)))

pub expr-returns-in-NullLiteral : goal.expr-returns-in-NullLiteral
expr-returns-in-NullLiteral t c = kept_one c.push-in-NullLiteral.ensures (λ h0. null_literal_made c.args.code.now c.push-in-NullLiteral.new.code h0 (grind (arith, tree.expr_made, tree.expr_null_literal)))

pub expr-returns-in-BooleanLiteral : goal.expr-returns-in-BooleanLiteral
expr-returns-in-BooleanLiteral t c = kept_one c.push-in-BooleanLiteral.ensures (λ h0. boolean_literal_made c.args.code.now c.push-in-BooleanLiteral.new.code h0 (grind (arith, tree.expr_made, tree.expr_boolean_literal)))

pub expr-returns-in-Ok-new : goal.expr-returns-in-Ok-new
expr-returns-in-Ok-new t c = kept_one c.push-in-NumericLiteral.ensures (λ h0. numeric_literal_made c.args.code.now c.push-in-NumericLiteral.new.code c.in-Ok-new.ensures h0 (grind (arith, tree.expr_made, tree.expr_numeric_literal)))

pub expr-returns-in-Ok-new-2 : goal.expr-returns-in-Ok-new-2
expr-returns-in-Ok-new-2 t c = kept_one c.push-in-StringLiteral.ensures (λ h0. string_literal_made c.args.code.now c.push-in-StringLiteral.new.code c.in-Ok-new-2.ensures h0 (grind (arith, tree.expr_made, tree.expr_string_literal)))

pub expr-returns-in-ArrayLiteral : goal.expr-returns-in-ArrayLiteral
expr-returns-in-ArrayLiteral t c = kept_two c.exprs-items.ensures c.push-in-ArrayLiteral.ensures (λ h0 h1. array_literal_made c.push-in-ArrayLiteral.new.code h0 h1 (grind (arith, tree.expr_made, tree.expr_array_literal)))

pub expr-push-requires-in-ArrayLiteral-clause-below : goal.expr-push-requires-in-ArrayLiteral-clause-below
expr-push-requires-in-ArrayLiteral-clause-below t c w = let h0 = c.exprs-items.ensures.kept w in h0.compiled.placed

pub expr-returns-in-ObjectLiteral : goal.expr-returns-in-ObjectLiteral
expr-returns-in-ObjectLiteral t c = kept_two c.properties-properties.ensures c.push-in-ObjectLiteral.ensures (λ h0 h1. object_literal_made c.push-in-ObjectLiteral.new.code h0 h1 (grind (arith, tree.expr_made, tree.expr_object_literal)))

pub expr-push-requires-in-ObjectLiteral-clause-below : goal.expr-push-requires-in-ObjectLiteral-clause-below
expr-push-requires-in-ObjectLiteral-clause-below t c w = let h0 = c.properties-properties.ensures.kept w in h0.compiled.placed

pub expr-returns-in-Ok-shared_if : goal.expr-returns-in-Ok-shared_if
expr-returns-in-Ok-shared_if t c = kept_two c.function-function.ensures c.push-in-FunctionExpression.ensures (λ h0 h1. function_expression_made c.push-in-FunctionExpression.new.code h0 c.in-Ok-shared_if.ensures h1 (grind (arith, tree.expr_made, tree.expr_function_expression)))

pub expr-push-requires-in-FunctionExpression-clause-below : goal.expr-push-requires-in-FunctionExpression-clause-below
expr-push-requires-in-FunctionExpression-clause-below t c w = let h0 = c.function-function.ensures.kept w in (h0.compiled None None).placed

pub expr-returns-in-Ok-copied-2 : goal.expr-returns-in-Ok-copied-2
expr-returns-in-Ok-copied-2 t c = kept_one c.push-in-RegularExpressionLiteral.ensures (λ h0. regular_expression_literal_made c.args.code.now c.push-in-RegularExpressionLiteral.new.code c.in-Ok-copied.ensures c.in-Ok-copied-2.ensures h0 (grind (arith, tree.expr_made, tree.expr_regular_expression_literal)))

pub expr-returns-in-Ok-new-3 : goal.expr-returns-in-Ok-new-3
expr-returns-in-Ok-new-3 t c = kept_two c.template_parts-parts.ensures c.push-in-TemplateLiteral.ensures (λ h0 h1. template_literal_made c.push-in-TemplateLiteral.new.code h0 c.in-Ok-new-3.ensures h1 (grind (arith, tree.expr_made, tree.expr_template_literal)))

pub expr-push-requires-in-TemplateLiteral-clause-below : goal.expr-push-requires-in-TemplateLiteral-clause-below
expr-push-requires-in-TemplateLiteral-clause-below t c w = let h0 = c.template_parts-parts.ensures.kept w in h0.compiled.placed

pub expr-returns-in-Parenthesized : goal.expr-returns-in-Parenthesized
expr-returns-in-Parenthesized t c = kept_two c.expr-inner.ensures c.push-in-Parenthesized.ensures (λ h0 h1. parenthesized_made c.push-in-Parenthesized.new.code h0 h1 (grind (arith, tree.expr_made, tree.expr_parenthesized)))

pub expr-push-requires-in-Parenthesized-clause-below : goal.expr-push-requires-in-Parenthesized-clause-below
expr-push-requires-in-Parenthesized-clause-below t c w = let h0 = c.expr-inner.ensures.kept w in (h0.compiled linked.Alone).placed

pub expr-returns-in-Ok-new-4 : goal.expr-returns-in-Ok-new-4
expr-returns-in-Ok-new-4 t c = kept_two c.expr-object.ensures c.push-in-NamedMember.ensures (λ h0 h1. named_member_made c.push-in-NamedMember.new.code h0 c.in-Ok-new-4.ensures h1 (grind (arith, tree.expr_made, tree.expr_named_member)))

pub expr-push-requires-in-NamedMember-clause-below : goal.expr-push-requires-in-NamedMember-clause-below
expr-push-requires-in-NamedMember-clause-below t c w = let h0 = c.expr-object.ensures.kept w in (h0.compiled linked.Alone).placed

pub expr-returns-in-ComputedMember : goal.expr-returns-in-ComputedMember
expr-returns-in-ComputedMember t c = kept_three c.expr-object-in-ComputedMember.ensures c.expr-key.ensures c.push-in-ComputedMember.ensures (λ h0 h1 h2. computed_member_made c.push-in-ComputedMember.new.code h0 h1 h2 (grind (arith, tree.expr_made, tree.expr_computed_member)))

pub expr-push-requires-in-ComputedMember-clause-below : goal.expr-push-requires-in-ComputedMember-clause-below
expr-push-requires-in-ComputedMember-clause-below t c w = let h1 = c.expr-key.ensures.kept w in let h0 = c.expr-object-in-ComputedMember.ensures.kept (c.expr-key.ensures.whole w) in (placed_on _ _ _ (h0.compiled linked.Alone).placed (h1.compiled linked.Alone).grows, (h1.compiled linked.Alone).placed)

pub expr-returns-in-New : goal.expr-returns-in-New
expr-returns-in-New t c = kept_three c.expr-constructor.ensures c.exprs-arguments.ensures c.push-in-New.ensures (λ h0 h1 h2. new_made c.push-in-New.new.code h0 h1 h2 (grind (arith, tree.expr_made, tree.expr_new)))

pub expr-push-requires-in-New-clause-below : goal.expr-push-requires-in-New-clause-below
expr-push-requires-in-New-clause-below t c w = let h1 = c.exprs-arguments.ensures.kept w in let h0 = c.expr-constructor.ensures.kept (c.exprs-arguments.ensures.whole w) in (placed_on _ _ _ (h0.compiled linked.Alone).placed h1.compiled.grows, h1.compiled.placed)

pub expr-returns-in-Call : goal.expr-returns-in-Call
expr-returns-in-Call t c = kept_three c.expr-callee.ensures c.exprs-arguments-in-Call.ensures c.push-in-Call.ensures (λ h0 h1 h2. call_made c.push-in-Call.new.code h0 h1 h2 (grind (arith, tree.expr_made, tree.expr_call)))

pub expr-push-requires-in-Call-clause-below : goal.expr-push-requires-in-Call-clause-below
expr-push-requires-in-Call-clause-below t c w = let h1 = c.exprs-arguments-in-Call.ensures.kept w in let h0 = c.expr-callee.ensures.kept (c.exprs-arguments-in-Call.ensures.whole w) in (placed_on _ _ _ (h0.compiled linked.Alone).placed h1.compiled.grows, h1.compiled.placed)

pub expr-returns-in-PostfixUpdate : goal.expr-returns-in-PostfixUpdate
expr-returns-in-PostfixUpdate t c = kept_two c.expr-target.ensures c.push-in-PostfixUpdate.ensures (λ h0 h1. postfix_update_made c.push-in-PostfixUpdate.new.code h0 h1 (grind (arith, tree.expr_made, tree.expr_postfix_update)))

pub expr-push-requires-in-PostfixUpdate-clause-below : goal.expr-push-requires-in-PostfixUpdate-clause-below
expr-push-requires-in-PostfixUpdate-clause-below t c w = let h0 = c.expr-target.ensures.kept w in (h0.compiled linked.Alone).placed

pub expr-returns-in-PrefixUpdate : goal.expr-returns-in-PrefixUpdate
expr-returns-in-PrefixUpdate t c = kept_two c.expr-target-in-PrefixUpdate.ensures c.push-in-PrefixUpdate.ensures (λ h0 h1. prefix_update_made c.push-in-PrefixUpdate.new.code h0 h1 (grind (arith, tree.expr_made, tree.expr_prefix_update)))

pub expr-push-requires-in-PrefixUpdate-clause-below : goal.expr-push-requires-in-PrefixUpdate-clause-below
expr-push-requires-in-PrefixUpdate-clause-below t c w = let h0 = c.expr-target-in-PrefixUpdate.ensures.kept w in (h0.compiled linked.Alone).placed

pub expr-returns-in-Unary : goal.expr-returns-in-Unary
expr-returns-in-Unary t c = kept_two c.expr-operand.ensures c.push-in-Unary.ensures (λ h0 h1. unary_made c.push-in-Unary.new.code h0 h1 (grind (arith, tree.expr_made, tree.expr_unary)))

pub expr-push-requires-in-Unary-clause-below : goal.expr-push-requires-in-Unary-clause-below
expr-push-requires-in-Unary-clause-below t c w = let h0 = c.expr-operand.ensures.kept w in (h0.compiled linked.Alone).placed

pub expr-returns-in-Binary : goal.expr-returns-in-Binary
expr-returns-in-Binary t c = kept_three c.expr-left.ensures c.expr-right.ensures c.push-in-Binary.ensures (λ h0 h1 h2. binary_made c.push-in-Binary.new.code h0 h1 h2 (grind (arith, tree.expr_made, tree.expr_binary)))

pub expr-push-requires-in-Binary-clause-below : goal.expr-push-requires-in-Binary-clause-below
expr-push-requires-in-Binary-clause-below t c w = let h1 = c.expr-right.ensures.kept w in let h0 = c.expr-left.ensures.kept (c.expr-right.ensures.whole w) in (placed_on _ _ _ (h0.compiled linked.Alone).placed (h1.compiled linked.Alone).grows, (h1.compiled linked.Alone).placed)

pub expr-returns-in-Logical : goal.expr-returns-in-Logical
expr-returns-in-Logical t c = kept_three c.expr-left-in-Logical.ensures c.expr-right-in-Logical.ensures c.push-in-Logical.ensures (λ h0 h1 h2. logical_made c.push-in-Logical.new.code h0 h1 h2 (grind (arith, tree.expr_made, tree.expr_logical)))

pub expr-push-requires-in-Logical-clause-below : goal.expr-push-requires-in-Logical-clause-below
expr-push-requires-in-Logical-clause-below t c w = let h1 = c.expr-right-in-Logical.ensures.kept w in let h0 = c.expr-left-in-Logical.ensures.kept (c.expr-right-in-Logical.ensures.whole w) in (placed_on _ _ _ (h0.compiled linked.Alone).placed (h1.compiled linked.Alone).grows, (h1.compiled linked.Alone).placed)

pub expr-returns-in-Conditional : goal.expr-returns-in-Conditional
expr-returns-in-Conditional t c = kept_four c.expr-test.ensures c.expr-holds.ensures c.expr-fails.ensures c.push-in-Conditional.ensures (λ h0 h1 h2 h3. conditional_made c.push-in-Conditional.new.code h0 h1 h2 h3 (grind (arith, tree.expr_made, tree.expr_conditional)))

pub expr-push-requires-in-Conditional-clause-below : goal.expr-push-requires-in-Conditional-clause-below
expr-push-requires-in-Conditional-clause-below t c w = let h2 = c.expr-fails.ensures.kept w in let h1 = c.expr-holds.ensures.kept (c.expr-fails.ensures.whole w) in let h0 = c.expr-test.ensures.kept (c.expr-holds.ensures.whole (c.expr-fails.ensures.whole w)) in (placed_on _ _ _ (placed_on _ _ _ (h0.compiled linked.Alone).placed (h1.compiled linked.Alone).grows) (h2.compiled linked.Alone).grows, placed_on _ _ _ (h1.compiled linked.Alone).placed (h2.compiled linked.Alone).grows, (h2.compiled linked.Alone).placed)

pub expr-returns-in-Assignment : goal.expr-returns-in-Assignment
expr-returns-in-Assignment t c = kept_three c.expr-target-in-Assignment.ensures c.expr-value.ensures c.push-in-Assignment.ensures (λ h0 h1 h2. assignment_made c.push-in-Assignment.new.code h0 h1 h2 (grind (arith, tree.expr_made, tree.expr_assignment)))

pub expr-push-requires-in-Assignment-clause-below : goal.expr-push-requires-in-Assignment-clause-below
expr-push-requires-in-Assignment-clause-below t c w = let h1 = c.expr-value.ensures.kept w in let h0 = c.expr-target-in-Assignment.ensures.kept (c.expr-value.ensures.whole w) in (placed_on _ _ _ (h0.compiled linked.Alone).placed (h1.compiled linked.Alone).grows, (h1.compiled linked.Alone).placed)

pub expr-returns-in-Comma : goal.expr-returns-in-Comma
expr-returns-in-Comma t c = kept_three c.expr-left-in-Comma.ensures c.expr-right-in-Comma.ensures c.push-in-Comma.ensures (λ h0 h1 h2. comma_made c.push-in-Comma.new.code h0 h1 h2 (grind (arith, tree.expr_made, tree.expr_comma)))

pub expr-push-requires-in-Comma-clause-below : goal.expr-push-requires-in-Comma-clause-below
expr-push-requires-in-Comma-clause-below t c w = let h1 = c.expr-right-in-Comma.ensures.kept w in let h0 = c.expr-left-in-Comma.ensures.kept (c.expr-right-in-Comma.ensures.whole w) in (placed_on _ _ _ (h0.compiled linked.Alone).placed (h1.compiled linked.Alone).grows, (h1.compiled linked.Alone).placed)

pub stmt-returns-in-Ok : goal.stmt-returns-in-Ok
stmt-returns-in-Ok t c = kept_one c.push.ensures (λ h0. directive_made c.args.code.now c.push.new.code c.in-Ok.ensures h0 (grind (arith, tree.stmt_made, tree.stmt_directive)))

pub stmt-returns-in-Block : goal.stmt-returns-in-Block
stmt-returns-in-Block t c = kept_two c.scope-statements.ensures c.push-in-Block.ensures (λ h0 h1. block_made c.push-in-Block.new.code h0 h1 (grind (arith, tree.stmt_made, tree.stmt_block)))

pub stmt-push-requires-in-Block-clause-below : goal.stmt-push-requires-in-Block-clause-below
stmt-push-requires-in-Block-clause-below t c w = let h0 = c.scope-statements.ensures.kept w in h0.compiled.placed

pub stmt-returns-in-VariableDeclaration : goal.stmt-returns-in-VariableDeclaration
stmt-returns-in-VariableDeclaration t c = kept_two c.declarators-declarators.ensures c.push-in-VariableDeclaration.ensures (λ h0 h1. variable_declaration_made c.push-in-VariableDeclaration.new.code h0 h1 (grind (arith, tree.stmt_made, tree.stmt_variable_declaration)))

pub stmt-push-requires-in-VariableDeclaration-clause-below : goal.stmt-push-requires-in-VariableDeclaration-clause-below
stmt-push-requires-in-VariableDeclaration-clause-below t c w = let h0 = c.declarators-declarators.ensures.kept w in h0.compiled.placed

pub stmt-returns-in-Empty : goal.stmt-returns-in-Empty
stmt-returns-in-Empty t c = kept_one c.push-in-Empty.ensures (λ h0. empty_made c.args.code.now c.push-in-Empty.new.code h0 (grind (arith, tree.stmt_made, tree.stmt_empty)))

pub stmt-returns-in-Expression : goal.stmt-returns-in-Expression
stmt-returns-in-Expression t c = kept_two c.expr-expression.ensures c.push-in-Expression.ensures (λ h0 h1. expression_made c.push-in-Expression.new.code h0 h1 (grind (arith, tree.stmt_made, tree.stmt_expression)))

pub stmt-push-requires-in-Expression-clause-below : goal.stmt-push-requires-in-Expression-clause-below
stmt-push-requires-in-Expression-clause-below t c w = let h0 = c.expr-expression.ensures.kept w in (h0.compiled linked.Alone).placed

pub stmt-returns-in-If : goal.stmt-returns-in-If
stmt-returns-in-If t c = kept_four c.expr-test.ensures c.stmt-holds.ensures c.stmt_if-fails.ensures c.push-in-If.ensures (λ h0 h1 h2 h3. if_made c.push-in-If.new.code h0 h1 h2 h3 (grind (arith, tree.stmt_made, tree.stmt_if)))

pub stmt-push-requires-in-If-clause-below : goal.stmt-push-requires-in-If-clause-below
stmt-push-requires-in-If-clause-below t c w = let h2 = c.stmt_if-fails.ensures.kept w in let h1 = c.stmt-holds.ensures.kept (c.stmt_if-fails.ensures.whole w) in let h0 = c.expr-test.ensures.kept (c.stmt-holds.ensures.whole (c.stmt_if-fails.ensures.whole w)) in (placed_on _ _ _ (placed_on _ _ _ (h0.compiled linked.Alone).placed h1.compiled.grows) h2.compiled.grows, placed_on _ _ _ h1.compiled.placed h2.compiled.grows, h2.compiled.placed)

pub stmt-returns-in-DoWhile : goal.stmt-returns-in-DoWhile
stmt-returns-in-DoWhile t c = kept_three c.stmt-body.ensures c.expr-test-in-DoWhile.ensures c.push-in-DoWhile.ensures (λ h0 h1 h2. do_while_made c.push-in-DoWhile.new.code h0 h1 h2 (grind (arith, tree.stmt_made, tree.stmt_do_while)))

pub stmt-push-requires-in-DoWhile-clause-below : goal.stmt-push-requires-in-DoWhile-clause-below
stmt-push-requires-in-DoWhile-clause-below t c w = let h1 = c.expr-test-in-DoWhile.ensures.kept w in let h0 = c.stmt-body.ensures.kept (c.expr-test-in-DoWhile.ensures.whole w) in (placed_on _ _ _ h0.compiled.placed (h1.compiled linked.Alone).grows, (h1.compiled linked.Alone).placed)

pub stmt-returns-in-While : goal.stmt-returns-in-While
stmt-returns-in-While t c = kept_three c.expr-test-in-While.ensures c.stmt-body-in-While.ensures c.push-in-While.ensures (λ h0 h1 h2. while_made c.push-in-While.new.code h0 h1 h2 (grind (arith, tree.stmt_made, tree.stmt_while)))

pub stmt-push-requires-in-While-clause-below : goal.stmt-push-requires-in-While-clause-below
stmt-push-requires-in-While-clause-below t c w = let h1 = c.stmt-body-in-While.ensures.kept w in let h0 = c.expr-test-in-While.ensures.kept (c.stmt-body-in-While.ensures.whole w) in (placed_on _ _ _ (h0.compiled linked.Alone).placed h1.compiled.grows, h1.compiled.placed)

pub stmt-returns-in-For : goal.stmt-returns-in-For
stmt-returns-in-For t c = kept_five c.for_init-init.ensures c.expr_if-test.ensures c.expr_if-update.ensures c.stmt-body-in-For.ensures c.push-in-For.ensures (λ h0 h1 h2 h3 h4. for_made c.push-in-For.new.code h0 h1 h2 h3 h4 (grind (arith, tree.stmt_made, tree.stmt_for)))

pub stmt-push-requires-in-For-clause-below : goal.stmt-push-requires-in-For-clause-below
stmt-push-requires-in-For-clause-below t c w = let h3 = c.stmt-body-in-For.ensures.kept w in let h2 = c.expr_if-update.ensures.kept (c.stmt-body-in-For.ensures.whole w) in let h1 = c.expr_if-test.ensures.kept (c.expr_if-update.ensures.whole (c.stmt-body-in-For.ensures.whole w)) in let h0 = c.for_init-init.ensures.kept (c.expr_if-test.ensures.whole (c.expr_if-update.ensures.whole (c.stmt-body-in-For.ensures.whole w))) in (placed_on _ _ _ (placed_on _ _ _ (placed_on _ _ _ h0.compiled.placed h1.compiled.grows) h2.compiled.grows) h3.compiled.grows, placed_on _ _ _ (placed_on _ _ _ h1.compiled.placed h2.compiled.grows) h3.compiled.grows, placed_on _ _ _ h2.compiled.placed h3.compiled.grows, h3.compiled.placed)

pub stmt-returns-in-ForIn : goal.stmt-returns-in-ForIn
stmt-returns-in-ForIn t c = kept_four c.for_target-target.ensures c.expr-object.ensures c.stmt-body-in-ForIn.ensures c.push-in-ForIn.ensures (λ h0 h1 h2 h3. for_in_made c.push-in-ForIn.new.code h0 h1 h2 h3 (grind (arith, tree.stmt_made, tree.stmt_for_in)))

pub stmt-push-requires-in-ForIn-clause-below : goal.stmt-push-requires-in-ForIn-clause-below
stmt-push-requires-in-ForIn-clause-below t c w = let h2 = c.stmt-body-in-ForIn.ensures.kept w in let h1 = c.expr-object.ensures.kept (c.stmt-body-in-ForIn.ensures.whole w) in let h0 = c.for_target-target.ensures.kept (c.expr-object.ensures.whole (c.stmt-body-in-ForIn.ensures.whole w)) in (placed_on _ _ _ (placed_on _ _ _ h0.compiled.placed (h1.compiled linked.Alone).grows) h2.compiled.grows, placed_on _ _ _ (h1.compiled linked.Alone).placed h2.compiled.grows, h2.compiled.placed)

pub stmt-returns-in-ForOf : goal.stmt-returns-in-ForOf
stmt-returns-in-ForOf t c = kept_four c.for_target-target-in-ForOf.ensures c.expr-iterable.ensures c.stmt-body-in-ForOf.ensures c.push-in-ForOf.ensures (λ h0 h1 h2 h3. for_of_made c.push-in-ForOf.new.code h0 h1 h2 h3 (grind (arith, tree.stmt_made, tree.stmt_for_of)))

pub stmt-push-requires-in-ForOf-clause-below : goal.stmt-push-requires-in-ForOf-clause-below
stmt-push-requires-in-ForOf-clause-below t c w = let h2 = c.stmt-body-in-ForOf.ensures.kept w in let h1 = c.expr-iterable.ensures.kept (c.stmt-body-in-ForOf.ensures.whole w) in let h0 = c.for_target-target-in-ForOf.ensures.kept (c.expr-iterable.ensures.whole (c.stmt-body-in-ForOf.ensures.whole w)) in (placed_on _ _ _ (placed_on _ _ _ h0.compiled.placed (h1.compiled linked.Alone).grows) h2.compiled.grows, placed_on _ _ _ (h1.compiled linked.Alone).placed h2.compiled.grows, h2.compiled.placed)

pub stmt-returns-in-Ok-shared_if : goal.stmt-returns-in-Ok-shared_if
stmt-returns-in-Ok-shared_if t c = kept_one c.push-in-Continue.ensures (λ h0. continue_made c.args.code.now c.push-in-Continue.new.code c.in-Ok-shared_if.ensures h0 (grind (arith, tree.stmt_made, tree.stmt_continue)))

pub stmt-returns-in-Ok-shared_if-2 : goal.stmt-returns-in-Ok-shared_if-2
stmt-returns-in-Ok-shared_if-2 t c = kept_one c.push-in-Break.ensures (λ h0. break_made c.args.code.now c.push-in-Break.new.code c.in-Ok-shared_if-2.ensures h0 (grind (arith, tree.stmt_made, tree.stmt_break)))

pub stmt-returns-in-Return : goal.stmt-returns-in-Return
stmt-returns-in-Return t c = kept_two c.expr_if-value.ensures c.push-in-Return.ensures (λ h0 h1. return_made c.push-in-Return.new.code h0 h1 (grind (arith, tree.stmt_made, tree.stmt_return)))

pub stmt-push-requires-in-Return-clause-below : goal.stmt-push-requires-in-Return-clause-below
stmt-push-requires-in-Return-clause-below t c w = let h0 = c.expr_if-value.ensures.kept w in h0.compiled.placed

pub stmt-returns-in-Switch : goal.stmt-returns-in-Switch
stmt-returns-in-Switch t c = kept_three c.expr-value.ensures c.case_scope-cases.ensures c.push-in-Switch.ensures (λ h0 h1 h2. switch_made c.push-in-Switch.new.code h0 h1 h2 (grind (arith, tree.stmt_made, tree.stmt_switch)))

pub stmt-push-requires-in-Switch-clause-below : goal.stmt-push-requires-in-Switch-clause-below
stmt-push-requires-in-Switch-clause-below t c w = let h1 = c.case_scope-cases.ensures.kept w in let h0 = c.expr-value.ensures.kept (c.case_scope-cases.ensures.whole w) in (placed_on _ _ _ (h0.compiled linked.Alone).placed h1.compiled.grows, h1.compiled.placed)

pub stmt-returns-in-Ok-new : goal.stmt-returns-in-Ok-new
stmt-returns-in-Ok-new t c = kept_two c.stmt-body-in-Labelled.ensures c.push-in-Labelled.ensures (λ h0 h1. labelled_made c.push-in-Labelled.new.code h0 c.in-Ok-new.ensures h1 (grind (arith, tree.stmt_made, tree.stmt_labelled)))

pub stmt-push-requires-in-Labelled-clause-below : goal.stmt-push-requires-in-Labelled-clause-below
stmt-push-requires-in-Labelled-clause-below t c w = let h0 = c.stmt-body-in-Labelled.ensures.kept w in h0.compiled.placed

pub stmt-returns-in-Throw : goal.stmt-returns-in-Throw
stmt-returns-in-Throw t c = kept_two c.expr-value-in-Throw.ensures c.push-in-Throw.ensures (λ h0 h1. throw_made c.push-in-Throw.new.code h0 h1 (grind (arith, tree.stmt_made, tree.stmt_throw)))

pub stmt-push-requires-in-Throw-clause-below : goal.stmt-push-requires-in-Throw-clause-below
stmt-push-requires-in-Throw-clause-below t c w = let h0 = c.expr-value-in-Throw.ensures.kept w in (h0.compiled linked.Alone).placed

pub stmt-returns-in-TryCatch : goal.stmt-returns-in-TryCatch
stmt-returns-in-TryCatch t c = kept_three c.scope-block.ensures c.catch-catch.ensures c.push-in-TryCatch.ensures (λ h0 h1 h2. try_catch_made c.push-in-TryCatch.new.code h0 h1 h2 (grind (arith, tree.stmt_made, tree.stmt_try_catch)))

pub stmt-push-requires-in-TryCatch-clause-below : goal.stmt-push-requires-in-TryCatch-clause-below
stmt-push-requires-in-TryCatch-clause-below t c w = let h1 = c.catch-catch.ensures.kept w in let h0 = c.scope-block.ensures.kept (c.catch-catch.ensures.whole w) in (placed_on _ _ _ h0.compiled.placed h1.compiled.grows, h1.compiled.placed)

pub stmt-returns-in-TryFinally : goal.stmt-returns-in-TryFinally
stmt-returns-in-TryFinally t c = kept_three c.scope-block-in-TryFinally.ensures c.scope-last.ensures c.push-in-TryFinally.ensures (λ h0 h1 h2. try_finally_made c.push-in-TryFinally.new.code h0 h1 h2 (grind (arith, tree.stmt_made, tree.stmt_try_finally)))

pub stmt-push-requires-in-TryFinally-clause-below : goal.stmt-push-requires-in-TryFinally-clause-below
stmt-push-requires-in-TryFinally-clause-below t c w = let h1 = c.scope-last.ensures.kept w in let h0 = c.scope-block-in-TryFinally.ensures.kept (c.scope-last.ensures.whole w) in (placed_on _ _ _ h0.compiled.placed h1.compiled.grows, h1.compiled.placed)

pub stmt-returns-in-TryCatchFinally : goal.stmt-returns-in-TryCatchFinally
stmt-returns-in-TryCatchFinally t c = kept_four c.scope-block-in-TryCatchFinally.ensures c.catch-catch-in-TryCatchFinally.ensures c.scope-last-in-TryCatchFinally.ensures c.push-in-TryCatchFinally.ensures (λ h0 h1 h2 h3. try_catch_finally_made c.push-in-TryCatchFinally.new.code h0 h1 h2 h3 (grind (arith, tree.stmt_made, tree.stmt_try_catch_finally)))

pub stmt-push-requires-in-TryCatchFinally-clause-below : goal.stmt-push-requires-in-TryCatchFinally-clause-below
stmt-push-requires-in-TryCatchFinally-clause-below t c w = let h2 = c.scope-last-in-TryCatchFinally.ensures.kept w in let h1 = c.catch-catch-in-TryCatchFinally.ensures.kept (c.scope-last-in-TryCatchFinally.ensures.whole w) in let h0 = c.scope-block-in-TryCatchFinally.ensures.kept (c.catch-catch-in-TryCatchFinally.ensures.whole (c.scope-last-in-TryCatchFinally.ensures.whole w)) in (placed_on _ _ _ (placed_on _ _ _ h0.compiled.placed h1.compiled.grows) h2.compiled.grows, placed_on _ _ _ h1.compiled.placed h2.compiled.grows, h2.compiled.placed)

pub stmt-returns-in-Debugger : goal.stmt-returns-in-Debugger
stmt-returns-in-Debugger t c = kept_one c.push-in-Debugger.ensures (λ h0. debugger_made c.args.code.now c.push-in-Debugger.new.code h0 (grind (arith, tree.stmt_made, tree.stmt_debugger)))

pub stmt-returns-in-Ok-new-2 : goal.stmt-returns-in-Ok-new-2
stmt-returns-in-Ok-new-2 t c = kept_two c.function-function.ensures c.push-in-FunctionDeclaration.ensures (λ h0 h1. function_declaration_made c.push-in-FunctionDeclaration.new.code h0 c.in-Ok-new-2.ensures h1 (grind (arith, tree.stmt_made, tree.stmt_function_declaration)))

pub stmt-push-requires-in-FunctionDeclaration-clause-below : goal.stmt-push-requires-in-FunctionDeclaration-clause-below
stmt-push-requires-in-FunctionDeclaration-clause-below t c w = let h0 = c.function-function.ensures.kept w in (h0.compiled None None).placed

pub template_part-returns : goal.template_part-returns
template_part-returns t c = kept_two c.expr-value.ensures c.push.ensures (λ h0 h1. template_part_made c.push.new.code h0 c.in-Ok.ensures h1 (grind (arith, tree.template_part_made)))

pub template_part-push-requires-clause-below : goal.template_part-push-requires-clause-below
template_part-push-requires-clause-below t c w = let h0 = c.expr-value.ensures.kept w in (h0.compiled linked.Alone).placed

pub property-returns-in-Ok : goal.property-returns-in-Ok
property-returns-in-Ok t c = kept_one c.push.ensures (λ h0. shorthand_made c.args.code.now c.push.new.code c.in-Ok.ensures h0 (grind (arith, tree.property_made, tree.property_shorthand)))

pub property-returns-in-KeyValue : goal.property-returns-in-KeyValue
property-returns-in-KeyValue t c = kept_three c.property_key-key.ensures c.expr-value.ensures c.push-in-KeyValue.ensures (λ h0 h1 h2. key_value_made c.push-in-KeyValue.new.code h0 h1 h2 (grind (arith, tree.property_made, tree.property_key_value)))

pub property-push-requires-in-KeyValue-clause-below : goal.property-push-requires-in-KeyValue-clause-below
property-push-requires-in-KeyValue-clause-below t c w = let h1 = c.expr-value.ensures.kept w in let h0 = c.property_key-key.ensures.kept (c.expr-value.ensures.whole w) in (placed_on _ _ _ h0.compiled.placed (h1.compiled linked.Alone).grows, (h1.compiled linked.Alone).placed)

pub property_key-returns-in-Ok : goal.property_key-returns-in-Ok
property_key-returns-in-Ok t c = kept_one c.push.ensures (λ h0. name_key_made c.args.code.now c.push.new.code c.in-Ok.ensures h0 (grind (arith, tree.property_key_name_key)))

pub property_key-returns-in-Ok-new : goal.property_key-returns-in-Ok-new
property_key-returns-in-Ok-new t c = kept_one c.push-in-StringKey.ensures (λ h0. string_key_made c.args.code.now c.push-in-StringKey.new.code c.in-Ok-new.ensures h0 (grind (arith, tree.property_key_string_key)))

pub property_key-returns-in-Ok-new-2 : goal.property_key-returns-in-Ok-new-2
property_key-returns-in-Ok-new-2 t c = kept_one c.push-in-NumberKey.ensures (λ h0. number_key_made c.args.code.now c.push-in-NumberKey.new.code c.in-Ok-new-2.ensures h0 (grind (arith, tree.property_key_number_key)))

pub property_key-returns-in-ComputedKey : goal.property_key-returns-in-ComputedKey
property_key-returns-in-ComputedKey t c = kept_two c.expr-value.ensures c.push-in-ComputedKey.ensures (λ h0 h1. computed_key_made c.push-in-ComputedKey.new.code h0 h1 (grind (arith, tree.property_key_computed_key)))

pub property_key-push-requires-in-ComputedKey-clause-below : goal.property_key-push-requires-in-ComputedKey-clause-below
property_key-push-requires-in-ComputedKey-clause-below t c w = let h0 = c.expr-value.ensures.kept w in (h0.compiled linked.Alone).placed

pub param-returns : goal.param-returns
param-returns t c = kept_two c.expr_if-default.ensures c.push.ensures (λ h0 h1. param_made c.push.new.code h0 refl h1 (grind (arith, tree.param_made, c.in-Ok.ensures)))

pub param-push-requires-clause-below : goal.param-push-requires-clause-below
param-push-requires-clause-below t c w = let h0 = c.expr_if-default.ensures.kept w in h0.compiled.placed

pub declarator-returns : goal.declarator-returns
declarator-returns t c = kept_two c.expr_if-initializer.ensures c.push.ensures (λ h0 h1. declarator_made c.push.new.code h0 refl h1 (grind (arith, tree.declarator_made, c.in-Ok.ensures)))

pub declarator-push-requires-clause-below : goal.declarator-push-requires-clause-below
declarator-push-requires-clause-below t c w = let h0 = c.expr_if-initializer.ensures.kept w in h0.compiled.placed

pub for_init-returns-in-NoInit : goal.for_init-returns-in-NoInit
for_init-returns-in-NoInit t c = kept_one c.push.ensures (λ h0. no_init_made c.args.code.now c.push.new.code h0 (grind (arith, tree.for_init_no_init)))

pub for_init-returns-in-InitExpression : goal.for_init-returns-in-InitExpression
for_init-returns-in-InitExpression t c = kept_two c.expr-expression.ensures c.push-in-InitExpression.ensures (λ h0 h1. init_expression_made c.push-in-InitExpression.new.code h0 h1 (grind (arith, tree.for_init_init_expression)))

pub for_init-push-requires-in-InitExpression-clause-below : goal.for_init-push-requires-in-InitExpression-clause-below
for_init-push-requires-in-InitExpression-clause-below t c w = let h0 = c.expr-expression.ensures.kept w in (h0.compiled linked.Alone).placed

pub for_target-returns-in-Ok : goal.for_target-returns-in-Ok
for_target-returns-in-Ok t c = kept_one c.push.ensures (λ h0. target_declaration_made c.args.code.now c.push.new.code refl h0 (grind (arith, tree.for_target_target_declaration, c.in-Ok.ensures)))

pub for_target-returns-in-TargetExpression : goal.for_target-returns-in-TargetExpression
for_target-returns-in-TargetExpression t c = kept_two c.expr-expression.ensures c.push-in-TargetExpression.ensures (λ h0 h1. target_expression_made c.push-in-TargetExpression.new.code h0 h1 (grind (arith, tree.for_target_target_expression)))

pub for_target-push-requires-in-TargetExpression-clause-below : goal.for_target-push-requires-in-TargetExpression-clause-below
for_target-push-requires-in-TargetExpression-clause-below t c w = let h0 = c.expr-expression.ensures.kept w in (h0.compiled linked.Alone).placed

pub case-returns : goal.case-returns
case-returns t c = kept_three c.expr_if-test.ensures c.stmts-statements.ensures c.push.ensures (λ h0 h1 h2. case_made c.push.new.code h0 h1 h2 (grind (arith, tree.case_made)))

pub case-push-requires-clause-below : goal.case-push-requires-clause-below
case-push-requires-clause-below t c w = let h1 = c.stmts-statements.ensures.kept w in let h0 = c.expr_if-test.ensures.kept (c.stmts-statements.ensures.whole w) in (placed_on _ _ _ h0.compiled.placed h1.compiled.grows, h1.compiled.placed)

pub catch-returns-in-None : goal.catch-returns-in-None
catch-returns-in-None t c = kept_two c.scope-statements.ensures c.push.ensures (λ h0 h1. catch_made c.push.new.code h0 h1 (grind (arith, tree.catch_made, tree.pattern_if_none)))

pub catch-push-requires-clause-below : goal.catch-push-requires-clause-below
catch-push-requires-clause-below t c w = let h0 = c.scope-statements.ensures.kept w in h0.compiled.placed

pub catch-returns-in-Ok : goal.catch-returns-in-Ok
catch-returns-in-Ok t c = kept_two c.scope-statements.ensures c.push-in-Some.ensures (λ h0 h1. catch_name_made c.push-in-Some.new.code h0 refl h1 (grind (arith, tree.catch_made, tree.pattern_if_some, c.in-Ok.ensures)))

pub catch-push-requires-in-Some-clause-below : goal.catch-push-requires-in-Some-clause-below
catch-push-requires-in-Some-clause-below t c w = let h0 = c.scope-statements.ensures.kept w in h0.compiled.placed

pub exprs-loop-index-init : goal.exprs-loop-index-init
exprs-loop-index-init t c = record { whole = λ w. w; kept = λ w. rw c.new-places.ensures (list_begins exprs_kind exprs_are _ _) }

pub exprs-loop-index-preserved : goal.exprs-loop-index-preserved
exprs-loop-index-preserved t c = kept_three c.loop-index.invariant c.expr-place.ensures c.hold.ensures (λ l e h. held _ _ h (exprs_go_on c.args.exprs.now c.loop-index-test.true c.index-exprs-index.is l e))

pub exprs-chain-requires : goal.exprs-chain-requires
exprs-chain-requires t c = record { below = λ w. places_below exprs_kind exprs_are c.as_slice.ensures (c.loop-index.invariant.kept w) }

pub exprs-returns : goal.exprs-returns
exprs-returns t c = kept_two c.loop-index.invariant c.chain.ensures (λ l p. exprs_end c.chain.new.code c.args.exprs.now (omega arith) l c.as_slice.ensures p)

pub template_parts-loop-index-init : goal.template_parts-loop-index-init
template_parts-loop-index-init t c = record { whole = λ w. w; kept = λ w. rw c.new-places.ensures (list_begins template_parts_kind template_parts_are _ _) }

pub template_parts-loop-index-preserved : goal.template_parts-loop-index-preserved
template_parts-loop-index-preserved t c = kept_three c.loop-index.invariant c.template_part-place.ensures c.hold.ensures (λ l e h. held _ _ h (template_parts_go_on c.args.template_parts.now c.loop-index-test.true c.index-template_parts-index.is l e))

pub template_parts-chain-requires : goal.template_parts-chain-requires
template_parts-chain-requires t c = record { below = λ w. places_below template_parts_kind template_parts_are c.as_slice.ensures (c.loop-index.invariant.kept w) }

pub template_parts-returns : goal.template_parts-returns
template_parts-returns t c = kept_two c.loop-index.invariant c.chain.ensures (λ l p. template_parts_end c.chain.new.code c.args.template_parts.now (omega arith) l c.as_slice.ensures p)

pub properties-loop-index-init : goal.properties-loop-index-init
properties-loop-index-init t c = record { whole = λ w. w; kept = λ w. rw c.new-places.ensures (list_begins properties_kind properties_are _ _) }

pub properties-loop-index-preserved : goal.properties-loop-index-preserved
properties-loop-index-preserved t c = kept_three c.loop-index.invariant c.property-place.ensures c.hold.ensures (λ l e h. held _ _ h (properties_go_on c.args.properties.now c.loop-index-test.true c.index-properties-index.is l e))

pub properties-chain-requires : goal.properties-chain-requires
properties-chain-requires t c = record { below = λ w. places_below properties_kind properties_are c.as_slice.ensures (c.loop-index.invariant.kept w) }

pub properties-returns : goal.properties-returns
properties-returns t c = kept_two c.loop-index.invariant c.chain.ensures (λ l p. properties_end c.chain.new.code c.args.properties.now (omega arith) l c.as_slice.ensures p)

pub params-loop-index-init : goal.params-loop-index-init
params-loop-index-init t c = record { whole = λ w. w; kept = λ w. rw c.new-places.ensures (list_begins params_kind params_are _ _) }

pub params-loop-index-preserved : goal.params-loop-index-preserved
params-loop-index-preserved t c = kept_three c.loop-index.invariant c.param-place.ensures c.hold.ensures (λ l e h. held _ _ h (params_go_on c.args.params.now c.loop-index-test.true c.index-params-index.is l e))

pub params-chain-requires : goal.params-chain-requires
params-chain-requires t c = record { below = λ w. places_below params_kind params_are c.as_slice.ensures (c.loop-index.invariant.kept w) }

pub params-returns : goal.params-returns
params-returns t c = kept_two c.loop-index.invariant c.chain.ensures (λ l p. params_end c.chain.new.code c.args.params.now (omega arith) l c.as_slice.ensures p)

pub stmts-loop-index-init : goal.stmts-loop-index-init
stmts-loop-index-init t c = record { whole = λ w. w; kept = λ w. rw c.new-places.ensures (list_begins stmts_kind stmts_are _ _) }

pub stmts-loop-index-preserved : goal.stmts-loop-index-preserved
stmts-loop-index-preserved t c = kept_three c.loop-index.invariant c.stmt-place.ensures c.hold.ensures (λ l e h. held _ _ h (stmts_go_on c.args.stmts.now c.loop-index-test.true c.index-stmts-index.is l e))

pub stmts-chain-requires : goal.stmts-chain-requires
stmts-chain-requires t c = record { below = λ w. places_below stmts_kind stmts_are c.as_slice.ensures (c.loop-index.invariant.kept w) }

pub stmts-returns : goal.stmts-returns
stmts-returns t c = kept_two c.loop-index.invariant c.chain.ensures (λ l p. stmts_end c.chain.new.code c.args.stmts.now (omega arith) l c.as_slice.ensures p)

pub declarators-loop-index-init : goal.declarators-loop-index-init
declarators-loop-index-init t c = record { whole = λ w. w; kept = λ w. rw c.new-places.ensures (list_begins declarators_kind declarators_are _ _) }

pub declarators-loop-index-preserved : goal.declarators-loop-index-preserved
declarators-loop-index-preserved t c = kept_three c.loop-index.invariant c.declarator-place.ensures c.hold.ensures (λ l e h. held _ _ h (declarators_go_on c.args.declarators.now c.loop-index-test.true c.index-declarators-index.is l e))

pub declarators-chain-requires : goal.declarators-chain-requires
declarators-chain-requires t c = record { below = λ w. places_below declarators_kind declarators_are c.as_slice.ensures (c.loop-index.invariant.kept w) }

pub declarators-returns : goal.declarators-returns
declarators-returns t c = kept_two c.loop-index.invariant c.chain.ensures (λ l p. declarators_end c.chain.new.code c.args.declarators.now (omega arith) l c.as_slice.ensures p)

pub cases-loop-index-init : goal.cases-loop-index-init
cases-loop-index-init t c = record { whole = λ w. w; kept = λ w. rw c.new-places.ensures (list_begins cases_kind cases_are _ _) }

pub cases-loop-index-preserved : goal.cases-loop-index-preserved
cases-loop-index-preserved t c = kept_three c.loop-index.invariant c.case-place.ensures c.hold.ensures (λ l e h. held _ _ h (cases_go_on c.args.cases.now c.loop-index-test.true c.index-cases-index.is l e))

pub cases-chain-requires : goal.cases-chain-requires
cases-chain-requires t c = record { below = λ w. places_below cases_kind cases_are c.as_slice.ensures (c.loop-index.invariant.kept w) }

pub cases-returns : goal.cases-returns
cases-returns t c = kept_two c.loop-index.invariant c.chain.ensures (λ l p. cases_end c.chain.new.code c.args.cases.now (omega arith) l c.as_slice.ensures p)

pub expr_if-returns-in-None : goal.expr_if-returns-in-None
expr_if-returns-in-None t c = kept_one c.push.ensures (λ h0. no_expr_made c.args.code.now c.push.new.code h0 (grind (arith, tree.expr_if_none)))

pub expr_if-returns-in-Some : goal.expr_if-returns-in-Some
expr_if-returns-in-Some t c = kept_one c.expr.ensures (λ h0. some_expr_made c.args.code.now c.expr.new.code h0 (grind (arith, tree.expr_if_some)))

pub stmt_if-returns-in-None : goal.stmt_if-returns-in-None
stmt_if-returns-in-None t c = kept_one c.push.ensures (λ h0. no_stmt_made c.args.code.now c.push.new.code h0 (grind (arith, tree.stmt_if_none)))

pub stmt_if-returns-in-Some : goal.stmt_if-returns-in-Some
stmt_if-returns-in-Some t c = kept_one c.stmt.ensures (λ h0. some_stmt_made c.args.code.now c.stmt.new.code h0 (grind (arith, tree.stmt_if_some)))

pub scope-put_scope-requires : goal.scope-put_scope-requires
scope-put_scope-requires t c = record { reads = λ w. let h0 = c.stmts-list.ensures.kept w in reads_of h0.compiled }

pub scope-returns : goal.scope-returns
scope-returns t c = kept_two c.stmts-list.ensures c.put_scope.ensures (λ h0 h1. scope_made c.put_scope.new.code h0 h1)

pub case_scope-put_case_scope-requires : goal.case_scope-put_case_scope-requires
case_scope-put_case_scope-requires t c = record { reads = λ w. let h0 = c.cases-list.ensures.kept w in reads_of h0.compiled }

pub case_scope-returns : goal.case_scope-returns
case_scope-returns t c = kept_two c.cases-list.ensures c.put_case_scope.ensures (λ h0 h1. case_scope_made c.put_case_scope.new.code h0 h1)

pub for_init-put_init-requires : goal.for_init-put_init-requires
for_init-put_init-requires t c = record { reads = λ w. let h0 = c.declarators-list.ensures.kept w in reads_of h0.compiled }

pub for_init-returns-in-InitDeclaration : goal.for_init-returns-in-InitDeclaration
for_init-returns-in-InitDeclaration t c = kept_two c.declarators-list.ensures c.put_init.ensures (λ h0 h1. init_declaration_made c.put_init.new.code h0 h1 (grind (arith, tree.for_init_init_declaration)))

pub function-put_function-place-requires-clause-params : goal.function-put_function-place-requires-clause-params
function-put_function-place-requires-clause-params t c w = let h2 = c.stmts-body.ensures.kept w in let h1 = c.params-params.ensures.kept (c.stmts-body.ensures.whole w) in reads_on h2.compiled.grows (reads_of h1.compiled)

pub function-put_function-place-requires-clause-body : goal.function-put_function-place-requires-clause-body
function-put_function-place-requires-clause-body t c w = let h2 = c.stmts-body.ensures.kept w in reads_of h2.compiled

pub function-returns : goal.function-returns
function-returns t c = kept_five c.reserve-number.ensures c.params-params.ensures c.stmts-body.ensures c.put_function-place.ensures c.note.ensures (λ h0 h1 h2 h3 h4. function_compiled h1 h2 h3 h0 h4 (grind (arith, tree.function_made, tree.function_body_made)))

pub property-put_function-function-requires-clause-params : goal.property-put_function-function-requires-clause-params
property-put_function-function-requires-clause-params t c w = let h3 = c.stmts-body.ensures.kept w in let h2 = c.params-params.ensures.kept (c.stmts-body.ensures.whole w) in reads_on h3.compiled.grows (reads_of h2.compiled)

pub property-put_function-function-requires-clause-body : goal.property-put_function-function-requires-clause-body
property-put_function-function-requires-clause-body t c w = let h3 = c.stmts-body.ensures.kept w in reads_of h3.compiled

pub property-push-requires-in-Method-clause-below : goal.property-push-requires-in-Method-clause-below
property-push-requires-in-Method-clause-below t c w = let h5 = c.note.ensures.kept w in let h4 = c.put_function-function.ensures.kept (c.note.ensures.whole w) in let h3 = c.stmts-body.ensures.kept (c.put_function-function.ensures.whole (c.note.ensures.whole w)) in let h2 = c.params-params.ensures.kept (c.stmts-body.ensures.whole (c.put_function-function.ensures.whole (c.note.ensures.whole w))) in let h1 = c.property_key-key-in-Method.ensures.kept (c.params-params.ensures.whole (c.stmts-body.ensures.whole (c.put_function-function.ensures.whole (c.note.ensures.whole w)))) in (method_below h5.nodes h1.compiled.placed h2.compiled.grows.longer h3.compiled.grows.longer h4.grows.longer, on_noted h5.nodes h4.placed)

pub property-returns-in-Method : goal.property-returns-in-Method
property-returns-in-Method t c = kept_seven c.reserve-number.ensures c.property_key-key-in-Method.ensures c.params-params.ensures c.stmts-body.ensures c.put_function-function.ensures c.note.ensures c.push-in-Method.ensures (λ h0 h1 h2 h3 h4 h5 h6. method_made c.push-in-Method.new.code h1 h2 h3 h4 h6 h0 h5 (grind (arith, tree.property_made, tree.property_method, tree.function_made, tree.function_body_made)))

pub expr-put_arrow_expression-function-requires-clause-params : goal.expr-put_arrow_expression-function-requires-clause-params
expr-put_arrow_expression-function-requires-clause-params t c w = let h2 = c.expr-body.ensures.kept w in let h1 = c.params-params.ensures.kept (c.expr-body.ensures.whole w) in reads_on (h2.compiled linked.Alone).grows (reads_of h1.compiled)

pub expr-put_arrow_expression-function-requires-clause-body : goal.expr-put_arrow_expression-function-requires-clause-body
expr-put_arrow_expression-function-requires-clause-body t c w = let h2 = c.expr-body.ensures.kept w in (h2.compiled linked.Alone).placed

pub expr-push-requires-in-ExpressionBody-clause-below : goal.expr-push-requires-in-ExpressionBody-clause-below
expr-push-requires-in-ExpressionBody-clause-below t c w = let h4 = c.note.ensures.kept w in let h3 = c.put_arrow_expression-function.ensures.kept (c.note.ensures.whole w) in on_noted h4.nodes h3.placed

pub expr-returns-in-ExpressionBody : goal.expr-returns-in-ExpressionBody
expr-returns-in-ExpressionBody t c = kept_six c.reserve-number.ensures c.params-params.ensures c.expr-body.ensures c.put_arrow_expression-function.ensures c.note.ensures c.push-in-ExpressionBody.ensures (λ h0 h1 h2 h3 h4 h5. arrow_function_made c.push-in-ExpressionBody.new.code (arrow_expression_compiled h1 h2 h3 h0 h4) h5 (grind (arith, tree.expr_made, tree.expr_arrow_function, tree.concise_body_expression_body)))

pub expr-put_arrow_block-function-requires-clause-params : goal.expr-put_arrow_block-function-requires-clause-params
expr-put_arrow_block-function-requires-clause-params t c w = let h2 = c.stmts-body.ensures.kept w in let h1 = c.params-params-in-BlockBody.ensures.kept (c.stmts-body.ensures.whole w) in reads_on h2.compiled.grows (reads_of h1.compiled)

pub expr-put_arrow_block-function-requires-clause-body : goal.expr-put_arrow_block-function-requires-clause-body
expr-put_arrow_block-function-requires-clause-body t c w = let h2 = c.stmts-body.ensures.kept w in reads_of h2.compiled

pub expr-push-requires-in-BlockBody-clause-below : goal.expr-push-requires-in-BlockBody-clause-below
expr-push-requires-in-BlockBody-clause-below t c w = let h4 = c.note-in-BlockBody.ensures.kept w in let h3 = c.put_arrow_block-function.ensures.kept (c.note-in-BlockBody.ensures.whole w) in on_noted h4.nodes h3.placed

pub expr-returns-in-BlockBody : goal.expr-returns-in-BlockBody
expr-returns-in-BlockBody t c = kept_six c.reserve-number-in-BlockBody.ensures c.params-params-in-BlockBody.ensures c.stmts-body.ensures c.put_arrow_block-function.ensures c.note-in-BlockBody.ensures c.push-in-BlockBody.ensures (λ h0 h1 h2 h3 h4 h5. arrow_function_made c.push-in-BlockBody.new.code (arrow_block_compiled h1 h2 h3 h0 h4 refl) h5 (grind (arith, tree.expr_made, tree.expr_arrow_function, tree.concise_body_block_body, tree.function_body_made)))

-- nodes of no parts, nodes that tell no scope, and want of memory
pub case-push-requires-clause-scope : goal.case-push-requires-clause-scope
case-push-requires-clause-scope t c w = tt

pub catch-push-requires-clause-scope : goal.catch-push-requires-clause-scope
catch-push-requires-clause-scope t c w = tt

pub catch-push-requires-in-Some-clause-scope : goal.catch-push-requires-in-Some-clause-scope
catch-push-requires-in-Some-clause-scope t c w = tt

pub declarator-push-requires-clause-scope : goal.declarator-push-requires-clause-scope
declarator-push-requires-clause-scope t c w = tt

pub expr-returns-in_default : goal.expr-returns-in_default
expr-returns-in_default t c = lacking c.lack.ensures

pub expr-push-requires-clause-below : goal.expr-push-requires-clause-below
expr-push-requires-clause-below t c w = tt

pub expr-push-requires-clause-scope : goal.expr-push-requires-clause-scope
expr-push-requires-clause-scope t c w = tt

pub expr-push-requires-in-This-clause-below : goal.expr-push-requires-in-This-clause-below
expr-push-requires-in-This-clause-below t c w = tt

pub expr-push-requires-in-This-clause-scope : goal.expr-push-requires-in-This-clause-scope
expr-push-requires-in-This-clause-scope t c w = tt

pub expr-push-requires-in-NullLiteral-clause-below : goal.expr-push-requires-in-NullLiteral-clause-below
expr-push-requires-in-NullLiteral-clause-below t c w = tt

pub expr-push-requires-in-NullLiteral-clause-scope : goal.expr-push-requires-in-NullLiteral-clause-scope
expr-push-requires-in-NullLiteral-clause-scope t c w = tt

pub expr-push-requires-in-BooleanLiteral-clause-below : goal.expr-push-requires-in-BooleanLiteral-clause-below
expr-push-requires-in-BooleanLiteral-clause-below t c w = tt

pub expr-push-requires-in-BooleanLiteral-clause-scope : goal.expr-push-requires-in-BooleanLiteral-clause-scope
expr-push-requires-in-BooleanLiteral-clause-scope t c w = tt

pub expr-returns-in_default-new : goal.expr-returns-in_default-new
expr-returns-in_default-new t c = lacking c.lack-in_default-new.ensures

pub expr-push-requires-in-NumericLiteral-clause-below : goal.expr-push-requires-in-NumericLiteral-clause-below
expr-push-requires-in-NumericLiteral-clause-below t c w = tt

pub expr-push-requires-in-NumericLiteral-clause-scope : goal.expr-push-requires-in-NumericLiteral-clause-scope
expr-push-requires-in-NumericLiteral-clause-scope t c w = tt

pub expr-returns-in_default-new-2 : goal.expr-returns-in_default-new-2
expr-returns-in_default-new-2 t c = lacking c.lack-in_default-new-2.ensures

pub expr-push-requires-in-StringLiteral-clause-below : goal.expr-push-requires-in-StringLiteral-clause-below
expr-push-requires-in-StringLiteral-clause-below t c w = tt

pub expr-push-requires-in-StringLiteral-clause-scope : goal.expr-push-requires-in-StringLiteral-clause-scope
expr-push-requires-in-StringLiteral-clause-scope t c w = tt

pub expr-push-requires-in-ArrayLiteral-clause-scope : goal.expr-push-requires-in-ArrayLiteral-clause-scope
expr-push-requires-in-ArrayLiteral-clause-scope t c w = tt

pub expr-push-requires-in-ObjectLiteral-clause-scope : goal.expr-push-requires-in-ObjectLiteral-clause-scope
expr-push-requires-in-ObjectLiteral-clause-scope t c w = tt

pub expr-returns-in_default-shared_if : goal.expr-returns-in_default-shared_if
expr-returns-in_default-shared_if t c = lacking c.lack-in_default-shared_if.ensures

pub expr-push-requires-in-FunctionExpression-clause-scope : goal.expr-push-requires-in-FunctionExpression-clause-scope
expr-push-requires-in-FunctionExpression-clause-scope t c w = tt

pub expr-push-requires-in-ExpressionBody-clause-scope : goal.expr-push-requires-in-ExpressionBody-clause-scope
expr-push-requires-in-ExpressionBody-clause-scope t c w = tt

pub expr-push-requires-in-BlockBody-clause-scope : goal.expr-push-requires-in-BlockBody-clause-scope
expr-push-requires-in-BlockBody-clause-scope t c w = tt

pub expr-returns-in_default-copied : goal.expr-returns-in_default-copied
expr-returns-in_default-copied t c = lacking c.lack-in_default-copied.ensures

pub expr-returns-in_default-copied-2 : goal.expr-returns-in_default-copied-2
expr-returns-in_default-copied-2 t c = lacking c.lack-in_default-copied-2.ensures

pub expr-push-requires-in-RegularExpressionLiteral-clause-below : goal.expr-push-requires-in-RegularExpressionLiteral-clause-below
expr-push-requires-in-RegularExpressionLiteral-clause-below t c w = tt

pub expr-push-requires-in-RegularExpressionLiteral-clause-scope : goal.expr-push-requires-in-RegularExpressionLiteral-clause-scope
expr-push-requires-in-RegularExpressionLiteral-clause-scope t c w = tt

pub expr-returns-in_default-new-3 : goal.expr-returns-in_default-new-3
expr-returns-in_default-new-3 t c = lacking c.lack-in_default-new-3.ensures

pub expr-push-requires-in-TemplateLiteral-clause-scope : goal.expr-push-requires-in-TemplateLiteral-clause-scope
expr-push-requires-in-TemplateLiteral-clause-scope t c w = tt

pub expr-push-requires-in-Parenthesized-clause-scope : goal.expr-push-requires-in-Parenthesized-clause-scope
expr-push-requires-in-Parenthesized-clause-scope t c w = tt

pub expr-returns-in_default-new-4 : goal.expr-returns-in_default-new-4
expr-returns-in_default-new-4 t c = lacking c.lack-in_default-new-4.ensures

pub expr-push-requires-in-NamedMember-clause-scope : goal.expr-push-requires-in-NamedMember-clause-scope
expr-push-requires-in-NamedMember-clause-scope t c w = tt

pub expr-push-requires-in-ComputedMember-clause-scope : goal.expr-push-requires-in-ComputedMember-clause-scope
expr-push-requires-in-ComputedMember-clause-scope t c w = tt

pub expr-push-requires-in-New-clause-scope : goal.expr-push-requires-in-New-clause-scope
expr-push-requires-in-New-clause-scope t c w = tt

pub expr-push-requires-in-Call-clause-scope : goal.expr-push-requires-in-Call-clause-scope
expr-push-requires-in-Call-clause-scope t c w = tt

pub expr-push-requires-in-PostfixUpdate-clause-scope : goal.expr-push-requires-in-PostfixUpdate-clause-scope
expr-push-requires-in-PostfixUpdate-clause-scope t c w = tt

pub expr-push-requires-in-PrefixUpdate-clause-scope : goal.expr-push-requires-in-PrefixUpdate-clause-scope
expr-push-requires-in-PrefixUpdate-clause-scope t c w = tt

pub expr-push-requires-in-Unary-clause-scope : goal.expr-push-requires-in-Unary-clause-scope
expr-push-requires-in-Unary-clause-scope t c w = tt

pub expr-push-requires-in-Binary-clause-scope : goal.expr-push-requires-in-Binary-clause-scope
expr-push-requires-in-Binary-clause-scope t c w = tt

pub expr-push-requires-in-Logical-clause-scope : goal.expr-push-requires-in-Logical-clause-scope
expr-push-requires-in-Logical-clause-scope t c w = tt

pub expr-push-requires-in-Conditional-clause-scope : goal.expr-push-requires-in-Conditional-clause-scope
expr-push-requires-in-Conditional-clause-scope t c w = tt

pub expr-push-requires-in-Assignment-clause-scope : goal.expr-push-requires-in-Assignment-clause-scope
expr-push-requires-in-Assignment-clause-scope t c w = tt

pub expr-push-requires-in-Comma-clause-scope : goal.expr-push-requires-in-Comma-clause-scope
expr-push-requires-in-Comma-clause-scope t c w = tt

pub expr_if-push-requires-clause-below : goal.expr_if-push-requires-clause-below
expr_if-push-requires-clause-below t c w = tt

pub expr_if-push-requires-clause-scope : goal.expr_if-push-requires-clause-scope
expr_if-push-requires-clause-scope t c w = tt

pub for_init-push-requires-clause-below : goal.for_init-push-requires-clause-below
for_init-push-requires-clause-below t c w = tt

pub for_init-push-requires-clause-scope : goal.for_init-push-requires-clause-scope
for_init-push-requires-clause-scope t c w = tt

pub for_init-push-requires-in-InitExpression-clause-scope : goal.for_init-push-requires-in-InitExpression-clause-scope
for_init-push-requires-in-InitExpression-clause-scope t c w = tt

pub for_target-push-requires-clause-below : goal.for_target-push-requires-clause-below
for_target-push-requires-clause-below t c w = tt

pub for_target-push-requires-clause-scope : goal.for_target-push-requires-clause-scope
for_target-push-requires-clause-scope t c w = tt

pub for_target-push-requires-in-TargetExpression-clause-scope : goal.for_target-push-requires-in-TargetExpression-clause-scope
for_target-push-requires-in-TargetExpression-clause-scope t c w = tt

pub param-push-requires-clause-scope : goal.param-push-requires-clause-scope
param-push-requires-clause-scope t c w = tt

pub property-push-requires-clause-below : goal.property-push-requires-clause-below
property-push-requires-clause-below t c w = tt

pub property-push-requires-clause-scope : goal.property-push-requires-clause-scope
property-push-requires-clause-scope t c w = tt

pub property-push-requires-in-KeyValue-clause-scope : goal.property-push-requires-in-KeyValue-clause-scope
property-push-requires-in-KeyValue-clause-scope t c w = tt

pub property-push-requires-in-Method-clause-scope : goal.property-push-requires-in-Method-clause-scope
property-push-requires-in-Method-clause-scope t c w = tt

pub property_key-returns-in_default : goal.property_key-returns-in_default
property_key-returns-in_default t c = lacking c.lack.ensures

pub property_key-push-requires-clause-below : goal.property_key-push-requires-clause-below
property_key-push-requires-clause-below t c w = tt

pub property_key-push-requires-clause-scope : goal.property_key-push-requires-clause-scope
property_key-push-requires-clause-scope t c w = tt

pub property_key-returns-in_default-new : goal.property_key-returns-in_default-new
property_key-returns-in_default-new t c = lacking c.lack-in_default-new.ensures

pub property_key-push-requires-in-StringKey-clause-below : goal.property_key-push-requires-in-StringKey-clause-below
property_key-push-requires-in-StringKey-clause-below t c w = tt

pub property_key-push-requires-in-StringKey-clause-scope : goal.property_key-push-requires-in-StringKey-clause-scope
property_key-push-requires-in-StringKey-clause-scope t c w = tt

pub property_key-returns-in_default-new-2 : goal.property_key-returns-in_default-new-2
property_key-returns-in_default-new-2 t c = lacking c.lack-in_default-new-2.ensures

pub property_key-push-requires-in-NumberKey-clause-below : goal.property_key-push-requires-in-NumberKey-clause-below
property_key-push-requires-in-NumberKey-clause-below t c w = tt

pub property_key-push-requires-in-NumberKey-clause-scope : goal.property_key-push-requires-in-NumberKey-clause-scope
property_key-push-requires-in-NumberKey-clause-scope t c w = tt

pub property_key-push-requires-in-ComputedKey-clause-scope : goal.property_key-push-requires-in-ComputedKey-clause-scope
property_key-push-requires-in-ComputedKey-clause-scope t c w = tt

pub stmt-returns-in_default : goal.stmt-returns-in_default
stmt-returns-in_default t c = lacking c.lack.ensures

pub stmt-push-requires-clause-below : goal.stmt-push-requires-clause-below
stmt-push-requires-clause-below t c w = tt

pub stmt-push-requires-clause-scope : goal.stmt-push-requires-clause-scope
stmt-push-requires-clause-scope t c w = tt

pub stmt-push-requires-in-Block-clause-scope : goal.stmt-push-requires-in-Block-clause-scope
stmt-push-requires-in-Block-clause-scope t c w = tt

pub stmt-push-requires-in-VariableDeclaration-clause-scope : goal.stmt-push-requires-in-VariableDeclaration-clause-scope
stmt-push-requires-in-VariableDeclaration-clause-scope t c w = tt

pub stmt-push-requires-in-Empty-clause-below : goal.stmt-push-requires-in-Empty-clause-below
stmt-push-requires-in-Empty-clause-below t c w = tt

pub stmt-push-requires-in-Empty-clause-scope : goal.stmt-push-requires-in-Empty-clause-scope
stmt-push-requires-in-Empty-clause-scope t c w = tt

pub stmt-push-requires-in-Expression-clause-scope : goal.stmt-push-requires-in-Expression-clause-scope
stmt-push-requires-in-Expression-clause-scope t c w = tt

pub stmt-push-requires-in-If-clause-scope : goal.stmt-push-requires-in-If-clause-scope
stmt-push-requires-in-If-clause-scope t c w = tt

pub stmt-push-requires-in-DoWhile-clause-scope : goal.stmt-push-requires-in-DoWhile-clause-scope
stmt-push-requires-in-DoWhile-clause-scope t c w = tt

pub stmt-push-requires-in-While-clause-scope : goal.stmt-push-requires-in-While-clause-scope
stmt-push-requires-in-While-clause-scope t c w = tt

pub stmt-push-requires-in-For-clause-scope : goal.stmt-push-requires-in-For-clause-scope
stmt-push-requires-in-For-clause-scope t c w = tt

pub stmt-push-requires-in-ForIn-clause-scope : goal.stmt-push-requires-in-ForIn-clause-scope
stmt-push-requires-in-ForIn-clause-scope t c w = tt

pub stmt-push-requires-in-ForOf-clause-scope : goal.stmt-push-requires-in-ForOf-clause-scope
stmt-push-requires-in-ForOf-clause-scope t c w = tt

pub stmt-returns-in_default-shared_if : goal.stmt-returns-in_default-shared_if
stmt-returns-in_default-shared_if t c = lacking c.lack-in_default-shared_if.ensures

pub stmt-push-requires-in-Continue-clause-below : goal.stmt-push-requires-in-Continue-clause-below
stmt-push-requires-in-Continue-clause-below t c w = tt

pub stmt-push-requires-in-Continue-clause-scope : goal.stmt-push-requires-in-Continue-clause-scope
stmt-push-requires-in-Continue-clause-scope t c w = tt

pub stmt-returns-in_default-shared_if-2 : goal.stmt-returns-in_default-shared_if-2
stmt-returns-in_default-shared_if-2 t c = lacking c.lack-in_default-shared_if-2.ensures

pub stmt-push-requires-in-Break-clause-below : goal.stmt-push-requires-in-Break-clause-below
stmt-push-requires-in-Break-clause-below t c w = tt

pub stmt-push-requires-in-Break-clause-scope : goal.stmt-push-requires-in-Break-clause-scope
stmt-push-requires-in-Break-clause-scope t c w = tt

pub stmt-push-requires-in-Return-clause-scope : goal.stmt-push-requires-in-Return-clause-scope
stmt-push-requires-in-Return-clause-scope t c w = tt

pub stmt-push-requires-in-Switch-clause-scope : goal.stmt-push-requires-in-Switch-clause-scope
stmt-push-requires-in-Switch-clause-scope t c w = tt

pub stmt-returns-in_default-new : goal.stmt-returns-in_default-new
stmt-returns-in_default-new t c = lacking c.lack-in_default-new.ensures

pub stmt-push-requires-in-Labelled-clause-scope : goal.stmt-push-requires-in-Labelled-clause-scope
stmt-push-requires-in-Labelled-clause-scope t c w = tt

pub stmt-push-requires-in-Throw-clause-scope : goal.stmt-push-requires-in-Throw-clause-scope
stmt-push-requires-in-Throw-clause-scope t c w = tt

pub stmt-push-requires-in-TryCatch-clause-scope : goal.stmt-push-requires-in-TryCatch-clause-scope
stmt-push-requires-in-TryCatch-clause-scope t c w = tt

pub stmt-push-requires-in-TryFinally-clause-scope : goal.stmt-push-requires-in-TryFinally-clause-scope
stmt-push-requires-in-TryFinally-clause-scope t c w = tt

pub stmt-push-requires-in-TryCatchFinally-clause-scope : goal.stmt-push-requires-in-TryCatchFinally-clause-scope
stmt-push-requires-in-TryCatchFinally-clause-scope t c w = tt

pub stmt-push-requires-in-Debugger-clause-below : goal.stmt-push-requires-in-Debugger-clause-below
stmt-push-requires-in-Debugger-clause-below t c w = tt

pub stmt-push-requires-in-Debugger-clause-scope : goal.stmt-push-requires-in-Debugger-clause-scope
stmt-push-requires-in-Debugger-clause-scope t c w = tt

pub stmt-returns-in_default-new-2 : goal.stmt-returns-in_default-new-2
stmt-returns-in_default-new-2 t c = lacking c.lack-in_default-new-2.ensures

pub stmt-push-requires-in-FunctionDeclaration-clause-scope : goal.stmt-push-requires-in-FunctionDeclaration-clause-scope
stmt-push-requires-in-FunctionDeclaration-clause-scope t c w = tt

pub stmt_if-push-requires-clause-below : goal.stmt_if-push-requires-clause-below
stmt_if-push-requires-clause-below t c w = tt

pub stmt_if-push-requires-clause-scope : goal.stmt_if-push-requires-clause-scope
stmt_if-push-requires-clause-scope t c w = tt

pub template_part-push-requires-clause-scope : goal.template_part-push-requires-clause-scope
template_part-push-requires-clause-scope t c w = tt
