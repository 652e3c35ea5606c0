use Rattle.std.proofs.Common.{[], rules, ◌∷◌, true, ◌≡◌, ◌∙◌, ◌+◌, drop, sym, ap, arith}
use Rattle.std.proofs.lemmas.List.{drop_all}
use Rattle.js_tree.specs.declared.tree.ConciseBody.TheViews.{out-TemplatePart, out-Param, out-Declarator, out-FunctionBody, out-Case, out-Property, out-Function, out-Expr, out-Stmt}
use Rattle.js_tree.specs.Tree.{plain_function, plain_function_body, plain_property_key, plain_pattern, plain_expr, plain_exprs, plain_expr_if, plain_property, plain_properties, plain_param, plain_params, plain_concise_body, plain_declarator, plain_declarators, plain_stmt, plain_stmts, plain_stmt_if, plain_for_init, plain_for_target, plain_case, plain_cases, plain_catch, plain_template_part, plain_template_parts}
use Rattle.js_tree.specs.Plain as tree
use Rattle.js_tree.proofs.Equations.{tree_rules}
use Rattle.js_text.specs.Token as T
use Rattle.js_text.specs.declared.punctuator.Punctuator.TheVariants as P
use Rattle.js_reading.specs.Level.{left_level}
use Rattle.js_layout.specs.Tokens.{word, token, exprs_tokens, properties_tokens, params_tokens, declarators_tokens, label_tokens, catch_tokens, body_tokens, pattern_tokens, concise_tokens, begun, pair_of, else_tokens, key_tokens, function_tokens, maybe_tokens, init_tokens, target_tokens, initializer_tokens, mark, braced, in_parentheses, expr_tokens, more_exprs_tokens, property_tokens, more_properties_tokens, param_tokens, more_params_tokens, declarator_tokens, more_declarators_tokens, stmt_tokens, stmts_tokens, case_tokens, cases_tokens, parts_tokens}
use Rattle.js_layout.specs.Neat.{neat_body, neat_catch, neat_concise, paired, left_operand, as_statement, neat_else, neat_function, neat_maybe, neat_key, neat_init, neat_target, neat_initializer, placed, neat_expr, neat_exprs, neat_property, neat_properties, neat_params, neat_declarators, neat_stmt, neat_stmts, neat_case, neat_cases, neat_parts}
use Rattle.js_print.specs.Parts.{neat_param, neat_declarator, part_tokens, template_tokens, test_tokens}
use Rattle.js_sheet.specs.Pairs.{own_pair}
use Rattle.js_sheet.proofs.Puts.{paired_true}
use Rattle.js_sheet.proofs.Openings.{left_pair, statement_is, body_is, initializer_is, bares_is}
use Rattle.js_print.proofs.Lists.{no_item, case_begins, put_step, put_more, next_expr, next_property, next_param, next_declarator, next_stmt, next_case, put_part, put_first, next_template_part, expressions_cut, properties_cut, params_cut, declarators_cut, params_first, declarators_first}
use Rattle.js_print.proofs.Steps.{none, one, two, part, put_as, of_form, begins_one, begins_expr, begins_pattern, begins_key, part_as, last_as, leaves_all, leaves_rest, leaves_of, leaves_left, leaves_none}
use Rattle.js_print.proofs.walk.+print.Goals as goal

pub expressions-loop-item-preserved : goal.expressions-loop-item-preserved
expressions-loop-item-preserved g t c =
    put_more (more_exprs_tokens c.args.loc (neat_exprs (plain_exprs (drop c.loop-item.item-index c.in-Some.others.now)))) (expr_tokens (placed 2 (plain_expr c.item-item.result) (neat_expr (plain_expr c.item-item.result)))) (more_exprs_tokens c.args.loc (neat_exprs (plain_exprs (drop (c.loop-item.item-index + 1) c.in-Some.others.now)))) (mark c.args.loc P.Comma)
    (ap (λ xs. more_exprs_tokens c.args.loc (neat_exprs xs)) (next_expr c.in-Some.others.now c.loop-item.item-index c.item-item.result c.loop-item-test.true c.item-item.is) ∙ expressions_cut c.args.loc (plain_expr c.item-item.result) (plain_exprs (drop (c.loop-item.item-index + 1) c.in-Some.others.now))) c.mark.ensures c.placed-in-loop-item.ensures c.loop-item.invariant

pub properties-loop-item-preserved : goal.properties-loop-item-preserved
properties-loop-item-preserved g t c =
    put_more (more_properties_tokens c.args.loc (neat_properties (plain_properties (drop c.loop-item.item-index c.in-Some.others.now)))) (property_tokens (neat_property (plain_property c.item-item.result))) (more_properties_tokens c.args.loc (neat_properties (plain_properties (drop (c.loop-item.item-index + 1) c.in-Some.others.now)))) (mark c.args.loc P.Comma)
    (ap (λ xs. more_properties_tokens c.args.loc (neat_properties xs)) (next_property c.in-Some.others.now c.loop-item.item-index c.item-item.result c.loop-item-test.true c.item-item.is) ∙ properties_cut c.args.loc (plain_property c.item-item.result) (plain_properties (drop (c.loop-item.item-index + 1) c.in-Some.others.now))) c.mark.ensures c.property-in-loop-item.ensures c.loop-item.invariant

pub params-loop-item-preserved : goal.params-loop-item-preserved
params-loop-item-preserved g t c =
    put_more (more_params_tokens c.args.loc (neat_params (plain_params (drop c.loop-item.item-index c.in-Some.others.now)))) (param_tokens (neat_param (plain_param c.item-item.result))) (more_params_tokens c.args.loc (neat_params (plain_params (drop (c.loop-item.item-index + 1) c.in-Some.others.now)))) (mark c.args.loc P.Comma)
    (ap (λ xs. more_params_tokens c.args.loc (neat_params xs)) (next_param c.in-Some.others.now c.loop-item.item-index c.item-item.result c.loop-item-test.true c.item-item.is) ∙ params_cut c.args.loc (plain_param c.item-item.result) (plain_params (drop (c.loop-item.item-index + 1) c.in-Some.others.now))) c.mark.ensures c.param-in-loop-item.ensures c.loop-item.invariant

pub declarators-loop-item-preserved : goal.declarators-loop-item-preserved
declarators-loop-item-preserved g t c =
    put_more (more_declarators_tokens c.args.loc (neat_declarators c.args.head (plain_declarators (drop c.loop-item.item-index c.in-Some.others.now)))) (declarator_tokens (neat_declarator c.args.head (plain_declarator c.item-item.result))) (more_declarators_tokens c.args.loc (neat_declarators c.args.head (plain_declarators (drop (c.loop-item.item-index + 1) c.in-Some.others.now)))) (mark c.args.loc P.Comma)
    (ap (λ xs. more_declarators_tokens c.args.loc (neat_declarators c.args.head xs)) (next_declarator c.in-Some.others.now c.loop-item.item-index c.item-item.result c.loop-item-test.true c.item-item.is) ∙ declarators_cut c.args.loc c.args.head (plain_declarator c.item-item.result) (plain_declarators (drop (c.loop-item.item-index + 1) c.in-Some.others.now))) c.mark.ensures c.declarator-in-loop-item.ensures c.loop-item.invariant

pub statements-loop-stmt-preserved : goal.statements-loop-stmt-preserved
statements-loop-stmt-preserved g t c =
    put_step (stmts_tokens (neat_stmts (plain_stmts (drop c.loop-stmt.stmt-index c.args.statements.now)))) (stmt_tokens (neat_stmt (plain_stmt c.stmt-item.result))) (stmts_tokens (neat_stmts (plain_stmts (drop (c.loop-stmt.stmt-index + 1) c.args.statements.now))))
    (ap (λ xs. stmts_tokens (neat_stmts xs)) (next_stmt c.args.statements.now c.loop-stmt.stmt-index c.stmt-item.result c.loop-stmt-test.true c.stmt-item.is)) c.statement.ensures c.loop-stmt.invariant

pub cases-loop-clause-preserved : goal.cases-loop-clause-preserved
cases-loop-clause-preserved g t c =
    put_step (cases_tokens (neat_cases (plain_cases (drop c.loop-clause.clause-index c.args.cases.now)))) (case_tokens (neat_case (plain_case c.clause-item.result))) (cases_tokens (neat_cases (plain_cases (drop (c.loop-clause.clause-index + 1) c.args.cases.now))))
    (ap (λ xs. cases_tokens (neat_cases xs)) (next_case c.args.cases.now c.loop-clause.clause-index c.clause-item.result c.loop-clause-test.true c.clause-item.is)) c.case.ensures c.loop-clause.invariant

pub template_parts-loop-part-preserved : goal.template_parts-loop-part-preserved
template_parts-loop-part-preserved g t c =
    put_part c.args.loc (plain_template_part c.part-item.result) (plain_template_parts (drop (c.loop-part.part-index + 1) c.args.parts.now)) c.template_part.ensures.middle c.template_part.ensures.tail
    (leaves_left (ap (λ xs. parts_tokens c.args.loc (neat_parts xs)) (next_template_part c.args.parts.now c.loop-part.part-index c.part-item.result c.loop-part-test.true c.part-item.is)) c.loop-part.invariant)

pub expressions-returns-in_default : goal.expressions-returns-in_default
expressions-returns-in_default g t c =
    let empty = no_item c.args.expressions.now c.in_default.ensures.cases in
    of_form (λ xs. exprs_tokens c.args.loc (neat_exprs (plain_exprs xs))) empty none

pub expressions-loop-item-init : goal.expressions-loop-item-init
expressions-loop-item-init g t c =
    let is : plain_exprs c.args.expressions.now ≡ tree.more_expr (plain_expr c.in-Some.first.now) (plain_exprs c.in-Some.others.now) = grind (arith, tree_rules) in
    leaves_of (ap (λ xs. exprs_tokens c.args.loc (neat_exprs xs)) is) (leaves_rest (expr_tokens (placed 2 (plain_expr c.in-Some.first.now) (neat_expr (plain_expr c.in-Some.first.now)))) c.placed.ensures)

pub expressions-returns : goal.expressions-returns
expressions-returns g t c = leaves_none (ap (λ xs. more_exprs_tokens c.args.loc (neat_exprs (plain_exprs xs))) (drop_all c.loop-item.item-index c.in-Some.others.now (search rules))) c.loop-item.invariant

pub properties-returns-in_default : goal.properties-returns-in_default
properties-returns-in_default g t c =
    let empty = no_item c.args.properties.now c.in_default.ensures.cases in
    of_form (λ xs. properties_tokens c.args.loc (neat_properties (plain_properties xs))) empty none

pub properties-loop-item-init : goal.properties-loop-item-init
properties-loop-item-init g t c =
    let is : plain_properties c.args.properties.now ≡ tree.more_property (plain_property c.in-Some.first.now) (plain_properties c.in-Some.others.now) = grind (arith, tree_rules) in
    leaves_of (ap (λ xs. properties_tokens c.args.loc (neat_properties xs)) is) (leaves_rest (property_tokens (neat_property (plain_property c.in-Some.first.now))) c.property.ensures)

pub properties-returns : goal.properties-returns
properties-returns g t c = leaves_none (ap (λ xs. more_properties_tokens c.args.loc (neat_properties (plain_properties xs))) (drop_all c.loop-item.item-index c.in-Some.others.now (search rules))) c.loop-item.invariant

pub params-returns-in_default : goal.params-returns-in_default
params-returns-in_default g t c =
    let empty = no_item c.args.params.now c.in_default.ensures.cases in
    of_form (λ xs. params_tokens c.args.loc (neat_params (plain_params xs))) empty none

pub params-loop-item-init : goal.params-loop-item-init
params-loop-item-init g t c =
    let is : plain_params c.args.params.now ≡ tree.more_param (plain_param c.in-Some.first.now) (plain_params c.in-Some.others.now) = grind (arith, tree_rules) in
    leaves_of (ap (λ xs. params_tokens c.args.loc (neat_params xs)) is ∙ params_first c.args.loc (plain_param c.in-Some.first.now) (plain_params c.in-Some.others.now)) (leaves_rest (param_tokens (neat_param (plain_param c.in-Some.first.now))) c.param.ensures)

pub params-returns : goal.params-returns
params-returns g t c = leaves_none (ap (λ xs. more_params_tokens c.args.loc (neat_params (plain_params xs))) (drop_all c.loop-item.item-index c.in-Some.others.now (search rules))) c.loop-item.invariant

pub declarators-returns-in_default : goal.declarators-returns-in_default
declarators-returns-in_default g t c =
    let empty = no_item c.args.declarators.now c.in_default.ensures.cases in
    of_form (λ xs. declarators_tokens c.args.loc (neat_declarators c.args.head (plain_declarators xs))) empty none

pub declarators-loop-item-init : goal.declarators-loop-item-init
declarators-loop-item-init g t c =
    let is : plain_declarators c.args.declarators.now ≡ tree.more_declarator (plain_declarator c.in-Some.first.now) (plain_declarators c.in-Some.others.now) = grind (arith, tree_rules) in
    leaves_of (ap (λ xs. declarators_tokens c.args.loc (neat_declarators c.args.head xs)) is ∙ declarators_first c.args.loc c.args.head (plain_declarator c.in-Some.first.now) (plain_declarators c.in-Some.others.now)) (leaves_rest (declarator_tokens (neat_declarator c.args.head (plain_declarator c.in-Some.first.now))) c.declarator.ensures)

pub declarators-returns : goal.declarators-returns
declarators-returns g t c = leaves_none (ap (λ xs. more_declarators_tokens c.args.loc (neat_declarators c.args.head (plain_declarators xs))) (drop_all c.loop-item.item-index c.in-Some.others.now (search rules))) c.loop-item.invariant

pub statements-loop-stmt-init : goal.statements-loop-stmt-init
statements-loop-stmt-init g t c = leaves_all

pub statements-returns : goal.statements-returns
statements-returns g t c = leaves_none (ap (λ xs. stmts_tokens (neat_stmts (plain_stmts xs))) (drop_all c.loop-stmt.stmt-index c.args.statements.now (search rules))) c.loop-stmt.invariant

pub cases-loop-clause-init : goal.cases-loop-clause-init
cases-loop-clause-init g t c = leaves_all

pub cases-returns : goal.cases-returns
cases-returns g t c = leaves_none (ap (λ xs. cases_tokens (neat_cases (plain_cases xs))) (drop_all c.loop-clause.clause-index c.args.cases.now (search rules))) c.loop-clause.invariant

pub template_parts-loop-part-init : goal.template_parts-loop-part-init
template_parts-loop-part-init g t c = leaves_all

pub template_parts-returns : goal.template_parts-returns
template_parts-returns g t c = leaves_none (ap (λ xs. parts_tokens c.args.loc (neat_parts (plain_template_parts xs))) (drop_all c.loop-part.part-index c.args.parts.now (search rules))) c.loop-part.invariant

-- ---- a form at a time

pub expression-returns-in-IdentifierReference : goal.expression-returns-in-IdentifierReference
expression-returns-in-IdentifierReference g t c =
    let l = (out-Expr c.args.expr.now).loc in
    let is : plain_expr c.args.expr.now ≡ tree.IdentifierReference l c.as_str.result.now = grind (arith, tree_rules) in
    of_form (λ e. expr_tokens (neat_expr e)) is (begins_one l c.begin.ensures c.word.ensures)

pub expression-returns-in-This : goal.expression-returns-in-This
expression-returns-in-This g t c =
    let l = (out-Expr c.args.expr.now).loc in
    let is : plain_expr c.args.expr.now ≡ tree.This l = grind (arith, tree_rules) in
    of_form (λ e. expr_tokens (neat_expr e)) is (begins_one l c.begin-in-This.ensures c.word-in-This.ensures)

pub expression-returns-in-NullLiteral : goal.expression-returns-in-NullLiteral
expression-returns-in-NullLiteral g t c =
    let l = (out-Expr c.args.expr.now).loc in
    let is : plain_expr c.args.expr.now ≡ tree.NullLiteral l = grind (arith, tree_rules) in
    of_form (λ e. expr_tokens (neat_expr e)) is (begins_one l c.begin-in-NullLiteral.ensures c.word-in-NullLiteral.ensures)

pub expression-returns-in-BooleanLiteral : goal.expression-returns-in-BooleanLiteral
expression-returns-in-BooleanLiteral g t c =
    let l = (out-Expr c.args.expr.now).loc in
    let is : plain_expr c.args.expr.now ≡ tree.BooleanLiteral l c.in-BooleanLiteral.value = grind (arith, tree_rules) in
    of_form (λ e. expr_tokens (neat_expr e)) is (begins_one l c.begin-in-BooleanLiteral.ensures ((put_as (λ w. word l w ∷ []) c.truth.ensures c.word-in-BooleanLiteral.ensures)))

pub expression-returns-in-NumericLiteral : goal.expression-returns-in-NumericLiteral
expression-returns-in-NumericLiteral g t c =
    let l = (out-Expr c.args.expr.now).loc in
    let is : plain_expr c.args.expr.now ≡ tree.NumericLiteral l c.as_str-in-NumericLiteral.result.now = grind (arith, tree_rules) in
    of_form (λ e. expr_tokens (neat_expr e)) is (begins_one l c.begin-in-NumericLiteral.ensures c.number.ensures)

pub expression-returns-in-StringLiteral : goal.expression-returns-in-StringLiteral
expression-returns-in-StringLiteral g t c =
    let l = (out-Expr c.args.expr.now).loc in
    let is : plain_expr c.args.expr.now ≡ tree.StringLiteral l c.in-StringLiteral.string = grind (arith, tree_rules) in
    of_form (λ e. expr_tokens (neat_expr e)) is (begins_one l c.begin-in-StringLiteral.ensures ((put_as (λ w. token l (T.StringLiteral w) ∷ []) c.as_str-in-StringLiteral.ensures c.literal.ensures.string)))

pub expression-returns-in-ArrayLiteral : goal.expression-returns-in-ArrayLiteral
expression-returns-in-ArrayLiteral g t c =
    let l = (out-Expr c.args.expr.now).loc in
    let is : plain_expr c.args.expr.now ≡ tree.ArrayLiteral l (plain_exprs c.as_slice.result.now) = grind (arith, tree_rules) in
    of_form (λ e. expr_tokens (neat_expr e)) is (begins_one l c.begin-in-ArrayLiteral.ensures (one c.mark.ensures (part _ c.expressions.ensures c.mark-in-ArrayLiteral.ensures)))

pub expression-returns-in-ObjectLiteral : goal.expression-returns-in-ObjectLiteral
expression-returns-in-ObjectLiteral g t c =
    let l = (out-Expr c.args.expr.now).loc in
    let is : plain_expr c.args.expr.now ≡ tree.ObjectLiteral l (plain_properties c.as_slice-in-ObjectLiteral.result.now) = grind (arith, tree_rules) in
    of_form (λ e. expr_tokens (neat_expr e)) is (begins_one l c.begin-in-ObjectLiteral.ensures (one c.mark-in-ObjectLiteral.ensures (part _ c.properties.ensures c.mark-in-ObjectLiteral-2.ensures)))

pub expression-returns-in-FunctionExpression : goal.expression-returns-in-FunctionExpression
expression-returns-in-FunctionExpression g t c =
    let l = (out-Expr c.args.expr.now).loc in
    let is : plain_expr c.args.expr.now ≡ tree.FunctionExpression l c.in-FunctionExpression.name (plain_function c.get.result.now) = grind (arith, tree_rules) in
    of_form (λ e. expr_tokens (neat_expr e)) is (begins_one l c.begin-in-FunctionExpression.ensures c.function_expression.ensures)

pub expression-returns-in-ArrowFunction : goal.expression-returns-in-ArrowFunction
expression-returns-in-ArrowFunction g t c =
    let l = (out-Expr c.args.expr.now).loc in
    let is : plain_expr c.args.expr.now ≡ tree.ArrowFunction l 0 (plain_params c.as_slice-in-ArrowFunction.result.now) (plain_concise_body c.get-in-ArrowFunction.result.now) = grind (arith, tree_rules) in
    of_form (λ e. expr_tokens (neat_expr e)) is (begins_one l c.begin-in-ArrowFunction.ensures (one c.mark-in-ArrowFunction.ensures (part _ c.params.ensures (one c.mark-in-ArrowFunction-2.ensures (one c.mark-in-ArrowFunction-3.ensures c.concise_body.ensures)))))

pub expression-returns-in-RegularExpressionLiteral : goal.expression-returns-in-RegularExpressionLiteral
expression-returns-in-RegularExpressionLiteral g t c =
    let l = (out-Expr c.args.expr.now).loc in
    let is : plain_expr c.args.expr.now ≡ tree.RegularExpressionLiteral l c.as_str-in-RegularExpressionLiteral.result.now c.as_str-in-RegularExpressionLiteral-2.result.now = grind (arith, tree_rules) in
    of_form (λ e. expr_tokens (neat_expr e)) is (begins_one l c.begin-in-RegularExpressionLiteral.ensures c.expression.ensures)

pub expression-returns-in-TemplateLiteral : goal.expression-returns-in-TemplateLiteral
expression-returns-in-TemplateLiteral g t c =
    let l = (out-Expr c.args.expr.now).loc in
    let is : plain_expr c.args.expr.now ≡ tree.TemplateLiteral l c.in-TemplateLiteral.text (plain_template_parts c.as_slice-in-TemplateLiteral.result.now) = grind (arith, tree_rules) in
    of_form (λ e. expr_tokens (neat_expr e)) is (begins_one l c.begin-in-TemplateLiteral.ensures ((put_as (λ w. template_tokens l w (neat_parts (plain_template_parts c.as_slice-in-TemplateLiteral.result.now))) c.as_str-in-TemplateLiteral.ensures c.template.ensures)))

pub expression-returns-in-Parenthesized : goal.expression-returns-in-Parenthesized
expression-returns-in-Parenthesized g t c =
    let l = (out-Expr c.args.expr.now).loc in
    let is : plain_expr c.args.expr.now ≡ tree.Parenthesized l (plain_expr c.get-in-Parenthesized.result.now) = grind (arith, tree_rules) in
    of_form (λ e. expr_tokens (neat_expr e)) is c.expression-in-Parenthesized.ensures

pub expression-returns-in-NamedMember : goal.expression-returns-in-NamedMember
expression-returns-in-NamedMember g t c =
    let l = (out-Expr c.args.expr.now).loc in
    let is : plain_expr c.args.expr.now ≡ tree.NamedMember l (plain_expr c.get-in-NamedMember.result.now) c.as_str-in-NamedMember.result.now = grind (arith, tree_rules) in
    of_form (λ e. expr_tokens (neat_expr e)) is (begins_expr l (placed 20 (plain_expr c.get-in-NamedMember.result.now) (neat_expr (plain_expr c.get-in-NamedMember.result.now))) _ c.begin-in-NamedMember.ensures (part _ c.placed.ensures (one c.mark-in-NamedMember.ensures c.word-in-NamedMember.ensures)))

pub expression-returns-in-ComputedMember : goal.expression-returns-in-ComputedMember
expression-returns-in-ComputedMember g t c =
    let l = (out-Expr c.args.expr.now).loc in
    let is : plain_expr c.args.expr.now ≡ tree.ComputedMember l (plain_expr c.get-in-ComputedMember.result.now) (plain_expr c.get-in-ComputedMember-2.result.now) = grind (arith, tree_rules) in
    of_form (λ e. expr_tokens (neat_expr e)) is (begins_expr l (placed 20 (plain_expr c.get-in-ComputedMember.result.now) (neat_expr (plain_expr c.get-in-ComputedMember.result.now))) _ c.begin-in-ComputedMember.ensures (part _ c.placed-in-ComputedMember.ensures (one c.mark-in-ComputedMember.ensures (part _ c.expression-in-ComputedMember.ensures c.mark-in-ComputedMember-2.ensures))))

pub expression-returns-in-New : goal.expression-returns-in-New
expression-returns-in-New g t c =
    let l = (out-Expr c.args.expr.now).loc in
    let is : plain_expr c.args.expr.now ≡ tree.New l (plain_expr c.get-in-New.result.now) (plain_exprs c.as_slice-in-New.result.now) = grind (arith, tree_rules) in
    of_form (λ e. expr_tokens (neat_expr e)) is (begins_one l c.begin-in-New.ensures (one c.word-in-New.ensures (part _ c.placed-in-New.ensures (one c.mark-in-New.ensures (part _ c.expressions-in-New.ensures c.mark-in-New-2.ensures)))))

pub expression-returns-in-Call : goal.expression-returns-in-Call
expression-returns-in-Call g t c =
    let l = (out-Expr c.args.expr.now).loc in
    let is : plain_expr c.args.expr.now ≡ tree.Call l (plain_expr c.get-in-Call.result.now) (plain_exprs c.as_slice-in-Call.result.now) = grind (arith, tree_rules) in
    of_form (λ e. expr_tokens (neat_expr e)) is (begins_expr l (placed 20 (plain_expr c.get-in-Call.result.now) (neat_expr (plain_expr c.get-in-Call.result.now))) _ c.begin-in-Call.ensures (part _ c.placed-in-Call.ensures (one c.mark-in-Call.ensures (part _ c.expressions-in-Call.ensures c.mark-in-Call-2.ensures))))

pub expression-returns-in-PostfixUpdate : goal.expression-returns-in-PostfixUpdate
expression-returns-in-PostfixUpdate g t c =
    let l = (out-Expr c.args.expr.now).loc in
    let is : plain_expr c.args.expr.now ≡ tree.PostfixUpdate l c.in-PostfixUpdate.operator (plain_expr c.get-in-PostfixUpdate.result.now) = grind (arith, tree_rules) in
    of_form (λ e. expr_tokens (neat_expr e)) is (begins_expr l (placed 20 (plain_expr c.get-in-PostfixUpdate.result.now) (neat_expr (plain_expr c.get-in-PostfixUpdate.result.now))) _ c.begin-in-PostfixUpdate.ensures (part _ c.placed-in-PostfixUpdate.ensures c.put_update_sign.ensures))

pub expression-returns-in-PrefixUpdate : goal.expression-returns-in-PrefixUpdate
expression-returns-in-PrefixUpdate g t c =
    let l = (out-Expr c.args.expr.now).loc in
    let is : plain_expr c.args.expr.now ≡ tree.PrefixUpdate l c.in-PrefixUpdate.operator (plain_expr c.get-in-PrefixUpdate.result.now) = grind (arith, tree_rules) in
    of_form (λ e. expr_tokens (neat_expr e)) is (begins_one l c.begin-in-PrefixUpdate.ensures (one c.put_update_sign-in-PrefixUpdate.ensures c.placed-in-PrefixUpdate.ensures))

pub expression-returns-in-Unary : goal.expression-returns-in-Unary
expression-returns-in-Unary g t c =
    let l = (out-Expr c.args.expr.now).loc in
    let is : plain_expr c.args.expr.now ≡ tree.Unary l c.in-Unary.operator (plain_expr c.get-in-Unary.result.now) = grind (arith, tree_rules) in
    of_form (λ e. expr_tokens (neat_expr e)) is (begins_one l c.begin-in-Unary.ensures (one c.put_unary_sign.ensures c.placed-in-Unary.ensures))

pub expression-returns-in-Binary : goal.expression-returns-in-Binary
expression-returns-in-Binary g t c =
    let l = (out-Expr c.args.expr.now).loc in
    let is : plain_expr c.args.expr.now ≡ tree.Binary l c.in-Binary.operator (plain_expr c.get-in-Binary.result.now) (plain_expr c.get-in-Binary-2.result.now) = grind (arith, tree_rules) in
    of_form (λ e. expr_tokens (neat_expr e)) is (begins_expr l (placed (left_level c.in-Binary.operator) (plain_expr c.get-in-Binary.result.now) (neat_expr (plain_expr c.get-in-Binary.result.now))) _ c.begin-in-Binary.ensures (part_as (ap (λ n. placed n (plain_expr c.get-in-Binary.result.now) (neat_expr (plain_expr c.get-in-Binary.result.now))) c.left_level.ensures) c.placed-in-Binary.ensures (one c.put_binary_sign.ensures (last_as (ap (λ n. placed n (plain_expr c.get-in-Binary-2.result.now) (neat_expr (plain_expr c.get-in-Binary-2.result.now))) c.right_level.ensures) c.placed-in-Binary-2.ensures))))

pub expression-returns-in-Logical : goal.expression-returns-in-Logical
expression-returns-in-Logical g t c =
    let l = (out-Expr c.args.expr.now).loc in
    let x = plain_expr c.get-left.result.now in
    let is : plain_expr c.args.expr.now ≡ tree.Logical l c.in-Logical.operator x (plain_expr c.get-in-Logical.result.now) = grind (arith, tree_rules) in
    of_form (λ e. expr_tokens (neat_expr e)) is (begins_expr l (left_operand c.in-Logical.operator x (neat_expr x)) _ c.begin-in-Logical.ensures (part_as (ap (λ b. paired b x (neat_expr x)) c.stands_in_pair.ensures ∙ sym (left_pair c.in-Logical.operator x)) c.paired.ensures (one c.put_logical_sign.ensures (last_as (ap (λ n. placed n (plain_expr c.get-in-Logical.result.now) (neat_expr (plain_expr c.get-in-Logical.result.now))) c.logical_right.ensures) c.placed-in-Logical.ensures))))

pub expression-returns-in-Conditional : goal.expression-returns-in-Conditional
expression-returns-in-Conditional g t c =
    let l = (out-Expr c.args.expr.now).loc in
    let is : plain_expr c.args.expr.now ≡ tree.Conditional l (plain_expr c.get-in-Conditional.result.now) (plain_expr c.get-in-Conditional-2.result.now) (plain_expr c.get-in-Conditional-3.result.now) = grind (arith, tree_rules) in
    of_form (λ e. expr_tokens (neat_expr e)) is (begins_expr l (placed 4 (plain_expr c.get-in-Conditional.result.now) (neat_expr (plain_expr c.get-in-Conditional.result.now))) _ c.begin-in-Conditional.ensures (part _ c.placed-in-Conditional.ensures (one c.mark-in-Conditional.ensures (part _ c.placed-in-Conditional-2.ensures (one c.mark-in-Conditional-2.ensures c.placed-in-Conditional-3.ensures)))))

pub expression-returns-in-Assignment : goal.expression-returns-in-Assignment
expression-returns-in-Assignment g t c =
    let l = (out-Expr c.args.expr.now).loc in
    let is : plain_expr c.args.expr.now ≡ tree.Assignment l c.in-Assignment.operator (plain_expr c.get-in-Assignment.result.now) (plain_expr c.get-in-Assignment-2.result.now) = grind (arith, tree_rules) in
    of_form (λ e. expr_tokens (neat_expr e)) is (begins_expr l (placed 20 (plain_expr c.get-in-Assignment.result.now) (neat_expr (plain_expr c.get-in-Assignment.result.now))) _ c.begin-in-Assignment.ensures (part _ c.placed-in-Assignment.ensures (one c.put_assignment_sign.ensures c.placed-in-Assignment-2.ensures)))

pub expression-returns-in-Comma : goal.expression-returns-in-Comma
expression-returns-in-Comma g t c =
    let l = (out-Expr c.args.expr.now).loc in
    let is : plain_expr c.args.expr.now ≡ tree.Comma l (plain_expr c.get-in-Comma.result.now) (plain_expr c.get-in-Comma-2.result.now) = grind (arith, tree_rules) in
    of_form (λ e. expr_tokens (neat_expr e)) is (begins_expr l (neat_expr (plain_expr c.get-in-Comma.result.now)) _ c.begin-in-Comma.ensures (part _ c.expression-in-Comma.ensures (one c.mark-in-Comma.ensures c.placed-in-Comma.ensures)))

pub statement-returns-in-Directive : goal.statement-returns-in-Directive
statement-returns-in-Directive g t c =
    let l = (out-Stmt c.args.stmt.now).loc in
    let is : plain_stmt c.args.stmt.now ≡ tree.Directive l c.in-Directive.string = grind (arith, tree_rules) in
    of_form (λ s. stmt_tokens (neat_stmt s)) is (begins_one l c.begin.ensures (one (put_as (λ w. token l (T.StringLiteral w) ∷ []) c.as_str.ensures c.literal.ensures.string) c.last_mark.ensures))

pub statement-returns-in-Block : goal.statement-returns-in-Block
statement-returns-in-Block g t c =
    let l = (out-Stmt c.args.stmt.now).loc in
    let is : plain_stmt c.args.stmt.now ≡ tree.Block l (plain_stmts c.as_slice.result.now) = grind (arith, tree_rules) in
    of_form (λ s. stmt_tokens (neat_stmt s)) is (begins_one l c.begin.ensures c.block.ensures)

pub statement-returns-in-VariableDeclaration : goal.statement-returns-in-VariableDeclaration
statement-returns-in-VariableDeclaration g t c =
    let l = (out-Stmt c.args.stmt.now).loc in
    let is : plain_stmt c.args.stmt.now ≡ tree.VariableDeclaration l c.in-VariableDeclaration.kind (plain_declarators c.as_slice-in-VariableDeclaration.result.now) = grind (arith, tree_rules) in
    of_form (λ s. stmt_tokens (neat_stmt s)) is (begins_one l c.begin.ensures (one c.put_variable_word.ensures (part _ c.declarators.ensures c.last_mark-in-VariableDeclaration.ensures)))

pub statement-returns-in-Empty : goal.statement-returns-in-Empty
statement-returns-in-Empty g t c =
    let l = (out-Stmt c.args.stmt.now).loc in
    let is : plain_stmt c.args.stmt.now ≡ tree.Empty l = grind (arith, tree_rules) in
    of_form (λ s. stmt_tokens (neat_stmt s)) is (begins_one l c.begin.ensures c.last_mark-in-Empty.ensures)

pub statement-returns-in-Expression : goal.statement-returns-in-Expression
statement-returns-in-Expression g t c =
    let l = (out-Stmt c.args.stmt.now).loc in
    let e = plain_expr c.get-expr.result.now in
    let is : plain_stmt c.args.stmt.now ≡ tree.Expression l e = grind (arith, tree_rules) in
    of_form (λ s. stmt_tokens (neat_stmt s)) is (begins_expr l (as_statement e (neat_expr e)) _ c.begin.ensures (part_as (ap (λ b. paired b e (neat_expr e)) c.stands_in_pair_as_statement.ensures ∙ sym (statement_is e)) c.paired.ensures c.last_mark-in-Expression.ensures))

pub statement-returns-in-If : goal.statement-returns-in-If
statement-returns-in-If g t c =
    let l = (out-Stmt c.args.stmt.now).loc in
    let is : plain_stmt c.args.stmt.now ≡ tree.If l (plain_expr c.get.result.now) (plain_stmt c.get-in-If.result.now) (plain_stmt_if c.in-If.otherwise) = grind (arith, tree_rules) in
    of_form (λ s. stmt_tokens (neat_stmt s)) is (begins_one l c.begin.ensures (one c.word.ensures (part (in_parentheses l (expr_tokens (neat_expr (plain_expr c.get.result.now)))) c.tested.ensures (part (stmt_tokens (neat_stmt (plain_stmt c.get-in-If.result.now))) c.statement.ensures c.else_part.ensures))))

pub statement-returns-in-DoWhile : goal.statement-returns-in-DoWhile
statement-returns-in-DoWhile g t c =
    let l = (out-Stmt c.args.stmt.now).loc in
    let is : plain_stmt c.args.stmt.now ≡ tree.DoWhile l (plain_stmt c.get-in-DoWhile.result.now) (plain_expr c.get-in-DoWhile-2.result.now) = grind (arith, tree_rules) in
    of_form (λ s. stmt_tokens (neat_stmt s)) is (begins_one l c.begin.ensures (one c.word-in-DoWhile.ensures (part (stmt_tokens (neat_stmt (plain_stmt c.get-in-DoWhile.result.now))) c.statement-in-DoWhile.ensures (one c.word-in-DoWhile-2.ensures (part (in_parentheses l (expr_tokens (neat_expr (plain_expr c.get-in-DoWhile-2.result.now)))) c.tested-in-DoWhile.ensures c.last_mark-in-DoWhile.ensures)))))

pub statement-returns-in-While : goal.statement-returns-in-While
statement-returns-in-While g t c =
    let l = (out-Stmt c.args.stmt.now).loc in
    let is : plain_stmt c.args.stmt.now ≡ tree.While l (plain_expr c.get-in-While.result.now) (plain_stmt c.get-in-While-2.result.now) = grind (arith, tree_rules) in
    of_form (λ s. stmt_tokens (neat_stmt s)) is (begins_one l c.begin.ensures (one c.word-in-While.ensures (part (in_parentheses l (expr_tokens (neat_expr (plain_expr c.get-in-While.result.now)))) c.tested-in-While.ensures c.statement-in-While.ensures)))

pub statement-returns-in-For : goal.statement-returns-in-For
statement-returns-in-For g t c =
    let l = (out-Stmt c.args.stmt.now).loc in
    let is : plain_stmt c.args.stmt.now ≡ tree.For l (plain_for_init c.get-in-For.result.now) (plain_expr_if c.in-For.test) (plain_expr_if c.in-For.update) (plain_stmt c.get-in-For-2.result.now) = grind (arith, tree_rules) in
    of_form (λ s. stmt_tokens (neat_stmt s)) is (begins_one l c.begin.ensures (two c.put_for_head.ensures (part _ c.for_init.ensures (one c.mark.ensures (part _ c.maybe.ensures (one c.mark-in-For.ensures (part _ c.maybe-in-For.ensures (one c.mark-in-For-2.ensures c.statement-in-For.ensures))))))))

pub statement-returns-in-ForIn : goal.statement-returns-in-ForIn
statement-returns-in-ForIn g t c =
    let l = (out-Stmt c.args.stmt.now).loc in
    let is : plain_stmt c.args.stmt.now ≡ tree.ForIn l (plain_for_target c.get-in-ForIn.result.now) (plain_expr c.get-in-ForIn-2.result.now) (plain_stmt c.get-in-ForIn-3.result.now) = grind (arith, tree_rules) in
    of_form (λ s. stmt_tokens (neat_stmt s)) is (begins_one l c.begin.ensures (two c.put_for_head-in-ForIn.ensures (part _ c.for_target.ensures (one c.word-in-ForIn.ensures (part _ c.expression.ensures (one c.mark-in-ForIn.ensures c.statement-in-ForIn.ensures))))))

pub statement-returns-in-ForOf : goal.statement-returns-in-ForOf
statement-returns-in-ForOf g t c =
    let l = (out-Stmt c.args.stmt.now).loc in
    let is : plain_stmt c.args.stmt.now ≡ tree.ForOf l (plain_for_target c.get-in-ForOf.result.now) (plain_expr c.get-in-ForOf-2.result.now) (plain_stmt c.get-in-ForOf-3.result.now) = grind (arith, tree_rules) in
    of_form (λ s. stmt_tokens (neat_stmt s)) is (begins_one l c.begin.ensures (two c.put_for_head-in-ForOf.ensures (part _ c.for_target-in-ForOf.ensures (one c.word-in-ForOf.ensures (part _ c.placed.ensures (one c.mark-in-ForOf.ensures c.statement-in-ForOf.ensures))))))

pub statement-returns-in-Continue : goal.statement-returns-in-Continue
statement-returns-in-Continue g t c =
    let l = (out-Stmt c.args.stmt.now).loc in
    let is : plain_stmt c.args.stmt.now ≡ tree.Continue l c.in-Continue.target = grind (arith, tree_rules) in
    of_form (λ s. stmt_tokens (neat_stmt s)) is (begins_one l c.begin.ensures (one c.put_continue.ensures (part _ c.label.ensures c.last_mark-in-Continue.ensures)))

pub statement-returns-in-Break : goal.statement-returns-in-Break
statement-returns-in-Break g t c =
    let l = (out-Stmt c.args.stmt.now).loc in
    let is : plain_stmt c.args.stmt.now ≡ tree.Break l c.in-Break.target = grind (arith, tree_rules) in
    of_form (λ s. stmt_tokens (neat_stmt s)) is (begins_one l c.begin.ensures (one c.word-in-Break.ensures (part _ c.label-in-Break.ensures c.last_mark-in-Break.ensures)))

pub statement-returns-in-Return : goal.statement-returns-in-Return
statement-returns-in-Return g t c =
    let l = (out-Stmt c.args.stmt.now).loc in
    let is : plain_stmt c.args.stmt.now ≡ tree.Return l (plain_expr_if c.in-Return.value) = grind (arith, tree_rules) in
    of_form (λ s. stmt_tokens (neat_stmt s)) is (begins_one l c.begin.ensures (one c.word-in-Return.ensures (part _ c.maybe-in-Return.ensures c.last_mark-in-Return.ensures)))

pub statement-returns-in-Switch : goal.statement-returns-in-Switch
statement-returns-in-Switch g t c =
    let l = (out-Stmt c.args.stmt.now).loc in
    let is : plain_stmt c.args.stmt.now ≡ tree.Switch l (plain_expr c.get-in-Switch.result.now) (plain_cases c.as_slice-in-Switch.result.now) = grind (arith, tree_rules) in
    of_form (λ s. stmt_tokens (neat_stmt s)) is (begins_one l c.begin.ensures (one c.word-in-Switch.ensures (part (in_parentheses l (expr_tokens (neat_expr (plain_expr c.get-in-Switch.result.now)))) c.tested-in-Switch.ensures (one c.last_mark-in-Switch.ensures (part _ c.cases.ensures c.last_mark-in-Switch-2.ensures)))))

pub statement-returns-in-Labelled : goal.statement-returns-in-Labelled
statement-returns-in-Labelled g t c =
    let l = (out-Stmt c.args.stmt.now).loc in
    let is : plain_stmt c.args.stmt.now ≡ tree.Labelled l c.in-Labelled.name (plain_stmt c.get-in-Labelled.result.now) = grind (arith, tree_rules) in
    of_form (λ s. stmt_tokens (neat_stmt s)) is (begins_one l c.begin.ensures (one (put_as (λ w. word l w ∷ []) c.as_str-in-Labelled.ensures c.word-in-Labelled.ensures) (one c.mark-in-Labelled.ensures c.statement-in-Labelled.ensures)))

pub statement-returns-in-Throw : goal.statement-returns-in-Throw
statement-returns-in-Throw g t c =
    let l = (out-Stmt c.args.stmt.now).loc in
    let is : plain_stmt c.args.stmt.now ≡ tree.Throw l (plain_expr c.get-in-Throw.result.now) = grind (arith, tree_rules) in
    of_form (λ s. stmt_tokens (neat_stmt s)) is (begins_one l c.begin.ensures (one c.word-in-Throw.ensures (part _ c.expression-in-Throw.ensures c.last_mark-in-Throw.ensures)))

pub statement-returns-in-TryCatch : goal.statement-returns-in-TryCatch
statement-returns-in-TryCatch g t c =
    let l = (out-Stmt c.args.stmt.now).loc in
    let is : plain_stmt c.args.stmt.now ≡ tree.TryCatch l (plain_stmts c.as_slice-in-TryCatch.result.now) (plain_catch c.get-in-TryCatch.result.now) = grind (arith, tree_rules) in
    of_form (λ s. stmt_tokens (neat_stmt s)) is (begins_one l c.begin.ensures (one c.word-in-TryCatch.ensures (part (braced l (stmts_tokens (neat_stmts (plain_stmts c.as_slice-in-TryCatch.result.now)))) c.block-in-TryCatch.ensures c.catch.ensures)))

pub statement-returns-in-TryFinally : goal.statement-returns-in-TryFinally
statement-returns-in-TryFinally g t c =
    let l = (out-Stmt c.args.stmt.now).loc in
    let is : plain_stmt c.args.stmt.now ≡ tree.TryFinally l (plain_stmts c.as_slice-in-TryFinally.result.now) (plain_stmts c.as_slice-in-TryFinally-2.result.now) = grind (arith, tree_rules) in
    of_form (λ s. stmt_tokens (neat_stmt s)) is (begins_one l c.begin.ensures (one c.word-in-TryFinally.ensures (part (braced l (stmts_tokens (neat_stmts (plain_stmts c.as_slice-in-TryFinally.result.now)))) c.block-in-TryFinally.ensures (one c.word-in-TryFinally-2.ensures c.block-in-TryFinally-2.ensures))))

pub statement-returns-in-TryCatchFinally : goal.statement-returns-in-TryCatchFinally
statement-returns-in-TryCatchFinally g t c =
    let l = (out-Stmt c.args.stmt.now).loc in
    let is : plain_stmt c.args.stmt.now ≡ tree.TryCatchFinally l (plain_stmts c.as_slice-in-TryCatchFinally.result.now) (plain_catch c.get-in-TryCatchFinally.result.now) (plain_stmts c.as_slice-in-TryCatchFinally-2.result.now) = grind (arith, tree_rules) in
    of_form (λ s. stmt_tokens (neat_stmt s)) is (begins_one l c.begin.ensures (one c.word-in-TryCatchFinally.ensures (part (braced l (stmts_tokens (neat_stmts (plain_stmts c.as_slice-in-TryCatchFinally.result.now)))) c.block-in-TryCatchFinally.ensures (part _ c.catch-in-TryCatchFinally.ensures (one c.word-in-TryCatchFinally-2.ensures c.block-in-TryCatchFinally-2.ensures)))))

pub statement-returns-in-Debugger : goal.statement-returns-in-Debugger
statement-returns-in-Debugger g t c =
    let l = (out-Stmt c.args.stmt.now).loc in
    let is : plain_stmt c.args.stmt.now ≡ tree.Debugger l = grind (arith, tree_rules) in
    of_form (λ s. stmt_tokens (neat_stmt s)) is (begins_one l c.begin.ensures (one c.put_debugger.ensures c.last_mark-in-Debugger.ensures))

pub statement-returns-in-FunctionDeclaration : goal.statement-returns-in-FunctionDeclaration
statement-returns-in-FunctionDeclaration g t c =
    let l = (out-Stmt c.args.stmt.now).loc in
    let is : plain_stmt c.args.stmt.now ≡ tree.FunctionDeclaration l c.in-FunctionDeclaration.name (plain_function c.get-in-FunctionDeclaration.result.now) = grind (arith, tree_rules) in
    of_form (λ s. stmt_tokens (neat_stmt s)) is (begins_one l c.begin.ensures (one c.put_function.ensures (one (put_as (λ w. word l w ∷ []) c.as_str-in-FunctionDeclaration.ensures c.word-in-FunctionDeclaration.ensures) c.function.ensures)))

pub function_expression-returns : goal.function_expression-returns
function_expression-returns g t c =
    one c.put_function.ensures (part (label_tokens c.args.loc c.args.name.now) c.label.ensures c.function.ensures)

pub block-returns : goal.block-returns
block-returns g t c =
    one c.last_mark.ensures (part (stmts_tokens (neat_stmts (plain_stmts c.args.statements_in.now))) c.statements.ensures c.last_mark-2.ensures)

pub tested-returns : goal.tested-returns
tested-returns g t c =
    one c.mark.ensures (part (expr_tokens (neat_expr (plain_expr c.args.test.now))) c.expression.ensures c.mark-2.ensures)

pub template-returns : goal.template-returns
template-returns g t c =
    one (put_first c.args.loc c.args.text.now (neat_parts (plain_template_parts c.args.parts.now)) c.literal.ensures.whole c.literal.ensures.head) c.template_parts.ensures

pub in_pair-returns : goal.in_pair-returns
in_pair-returns g t c =
    let e = plain_expr c.args.expr.now in
    let own = c.own_place.ensures in
    let place = c.pair_place-loc.ensures in
    let there : expr_tokens (paired true e (neat_expr e)) ≡ begun c.own_place.result (in_parentheses c.pair_place-loc.result (expr_tokens (neat_expr e))) = ap expr_tokens (paired_true e (neat_expr e)) ∙ ap (λ l. begun l (in_parentheses (pair_of (own_pair e) (neat_expr e)) (expr_tokens (neat_expr e)))) (sym own) ∙ ap (λ l. begun c.own_place.result (in_parentheses l (expr_tokens (neat_expr e)))) (sym place) in
    of_form (λ ts. ts) there (begins_one c.own_place.result c.begin.ensures (one c.mark.ensures (part (expr_tokens (neat_expr e)) c.expression.ensures c.mark-2.ensures)))

pub property-returns-in-Shorthand : goal.property-returns-in-Shorthand
property-returns-in-Shorthand g t c =
    let l = (out-Property c.args.property.now).loc in
    let is : plain_property c.args.property.now ≡ tree.Shorthand l c.as_str.result.now = grind (arith, tree_rules) in
    of_form (λ p. property_tokens (neat_property p)) is (begins_one l c.begin.ensures c.word.ensures)

pub property-returns-in-KeyValue : goal.property-returns-in-KeyValue
property-returns-in-KeyValue g t c =
    let l = (out-Property c.args.property.now).loc in
    let is : plain_property c.args.property.now ≡ tree.KeyValue l (plain_property_key c.in-KeyValue.key) (plain_expr c.get.result.now) = grind (arith, tree_rules) in
    of_form (λ p. property_tokens (neat_property p)) is (part _ c.property_key.ensures (one c.mark.ensures c.placed.ensures))

pub property-returns-in-Method : goal.property-returns-in-Method
property-returns-in-Method g t c =
    let l = (out-Property c.args.property.now).loc in
    let is : plain_property c.args.property.now ≡ tree.Method l (plain_property_key c.in-Method.key) (plain_function c.get-in-Method.result.now) = grind (arith, tree_rules) in
    of_form (λ p. property_tokens (neat_property p)) is (begins_key l l (neat_key (plain_property_key c.in-Method.key)) _ c.begin-in-Method.ensures (part (key_tokens l (neat_key (plain_property_key c.in-Method.key))) c.property_key-in-Method.ensures c.function.ensures))

pub property_key-returns-in-NameKey : goal.property_key-returns-in-NameKey
property_key-returns-in-NameKey g t c =
    let is : plain_property_key c.args.key.now ≡ tree.NameKey c.as_str.result.now = grind (arith, tree_rules) in
    of_form (λ k. key_tokens c.args.loc (neat_key k)) is c.word.ensures

pub property_key-returns-in-StringKey : goal.property_key-returns-in-StringKey
property_key-returns-in-StringKey g t c =
    let is : plain_property_key c.args.key.now ≡ tree.StringKey c.in-StringKey.string = grind (arith, tree_rules) in
    of_form (λ k. key_tokens c.args.loc (neat_key k)) is ((put_as (λ w. token c.args.loc (T.StringLiteral w) ∷ []) c.as_str-in-StringKey.ensures c.literal.ensures.string))

pub property_key-returns-in-NumberKey : goal.property_key-returns-in-NumberKey
property_key-returns-in-NumberKey g t c =
    let is : plain_property_key c.args.key.now ≡ tree.NumberKey c.as_str-in-NumberKey.result.now = grind (arith, tree_rules) in
    of_form (λ k. key_tokens c.args.loc (neat_key k)) is c.number.ensures

pub property_key-returns-in-ComputedKey : goal.property_key-returns-in-ComputedKey
property_key-returns-in-ComputedKey g t c =
    let e = plain_expr c.get.result.now in
    let is : plain_property_key c.args.key.now ≡ tree.ComputedKey e = grind (arith, tree_rules) in
    of_form (λ k. key_tokens c.args.loc (neat_key k)) is (one c.mark.ensures (part (expr_tokens (placed 2 e (neat_expr e))) c.placed.ensures c.mark-in-ComputedKey.ensures))

pub function-returns : goal.function-returns
function-returns g t c =
    let is : plain_function c.args.function.now ≡ tree.MakeFunction 0 (plain_params c.as_slice.result.now) (plain_function_body (out-Function c.args.function.now).body) = grind (arith, tree_rules) in
    of_form (λ f. function_tokens c.args.loc (neat_function f)) is (one c.mark.ensures (part _ c.params.ensures (one c.mark-2.ensures c.function_body.ensures)))

pub maybe-returns-in-Some : goal.maybe-returns-in-Some
maybe-returns-in-Some g t c =
    let is : plain_expr_if c.args.value.now ≡ tree.some_expr (plain_expr c.get.result.now) = grind (arith, tree_rules) in
    of_form (λ e. maybe_tokens (neat_maybe e)) is c.expression.ensures

pub else_part-returns-in-Some : goal.else_part-returns-in-Some
else_part-returns-in-Some g t c =
    let is : plain_stmt_if c.args.otherwise.now ≡ tree.some_stmt (plain_stmt c.get.result.now) = grind (arith, tree_rules) in
    of_form (λ s. else_tokens c.args.loc (neat_else s)) is (one c.word.ensures c.statement.ensures)

pub maybe-returns-in-None : goal.maybe-returns-in-None
maybe-returns-in-None g t c =
    let is : plain_expr_if c.args.value.now ≡ tree.none_expr = grind (arith, tree_rules) in
    of_form (λ e. maybe_tokens (neat_maybe e)) is none

pub else_part-returns-in-None : goal.else_part-returns-in-None
else_part-returns-in-None g t c =
    let is : plain_stmt_if c.args.otherwise.now ≡ tree.none_stmt = grind (arith, tree_rules) in
    of_form (λ s. else_tokens c.args.loc (neat_else s)) is none

pub initializer-returns-in-None : goal.initializer-returns-in-None
initializer-returns-in-None g t c =
    let is : plain_expr_if c.args.value.now ≡ tree.none_expr = grind (arith, tree_rules) in
    of_form (λ e. initializer_tokens c.args.loc (neat_initializer c.args.head e)) is none

pub for_init-returns-in-NoInit : goal.for_init-returns-in-NoInit
for_init-returns-in-NoInit g t c =
    let is : plain_for_init c.args.init.now ≡ tree.NoInit = grind (arith, tree_rules) in
    of_form (λ i. init_tokens c.args.loc (neat_init i)) is none

pub for_init-returns-in-InitDeclaration : goal.for_init-returns-in-InitDeclaration
for_init-returns-in-InitDeclaration g t c =
    let is : plain_for_init c.args.init.now ≡ tree.InitDeclaration c.in-InitDeclaration.kind (plain_declarators c.as_slice.result.now) = grind (arith, tree_rules) in
    of_form (λ i. init_tokens c.args.loc (neat_init i)) is (one c.put_variable_word.ensures c.declarators.ensures)

pub for_init-returns-in-InitExpression : goal.for_init-returns-in-InitExpression
for_init-returns-in-InitExpression g t c =
    let e = plain_expr c.get-expr.result.now in
    let is : plain_for_init c.args.init.now ≡ tree.InitExpression e = grind (arith, tree_rules) in
    of_form (λ i. init_tokens c.args.loc (neat_init i)) is (last_as (ap (λ b. paired b e (neat_expr e)) (c.has_bare_in.ensures ∙ sym (bares_is e))) c.paired.ensures)

pub for_target-returns-in-TargetDeclaration : goal.for_target-returns-in-TargetDeclaration
for_target-returns-in-TargetDeclaration g t c =
    let is : plain_for_target c.args.target.now ≡ tree.TargetDeclaration c.in-TargetDeclaration.kind (plain_pattern c.in-TargetDeclaration.bound) = grind (arith, tree_rules) in
    of_form (λ x. target_tokens c.args.loc (neat_target x)) is (one c.put_variable_word.ensures c.pattern.ensures)

pub for_target-returns-in-TargetExpression : goal.for_target-returns-in-TargetExpression
for_target-returns-in-TargetExpression g t c =
    let is : plain_for_target c.args.target.now ≡ tree.TargetExpression (plain_expr c.get.result.now) = grind (arith, tree_rules) in
    of_form (λ x. target_tokens c.args.loc (neat_target x)) is c.expression.ensures

pub case_test-returns-in-None : goal.case_test-returns-in-None
case_test-returns-in-None g t c =
    let is : plain_expr_if c.args.test.now ≡ tree.none_expr = grind (arith, tree_rules) in
    of_form (λ e. test_tokens c.args.loc (neat_maybe e)) is c.word.ensures

pub case_test-returns-in-Some : goal.case_test-returns-in-Some
case_test-returns-in-Some g t c =
    let is : plain_expr_if c.args.test.now ≡ tree.some_expr (plain_expr c.get.result.now) = grind (arith, tree_rules) in
    of_form (λ e. test_tokens c.args.loc (neat_maybe e)) is (one c.word-in-Some.ensures c.expression.ensures)

pub case-returns : goal.case-returns
case-returns g t c =
    let l = (out-Case c.args.case.now).loc in
    let e = plain_expr_if (out-Case c.args.case.now).test in
    let ss = plain_stmts c.as_slice.result.now in
    let is : plain_case c.args.case.now ≡ tree.MakeCase l e ss = grind (arith, tree_rules) in
    of_form (λ ts. ts) (ap (λ k. case_tokens (neat_case k)) is ∙ case_begins l (neat_maybe e) (neat_stmts ss)) (part (test_tokens l (neat_maybe e)) c.case_test.ensures (one c.mark.ensures c.statements.ensures))

pub paired-returns-then-pair : goal.paired-returns-then-pair
paired-returns-then-pair g t c =
    let e = plain_expr c.args.expr.now in
    of_form (λ b. expr_tokens (paired b e (neat_expr e))) c.if-pair.true c.in_pair.ensures

pub paired-returns-else-pair : goal.paired-returns-else-pair
paired-returns-else-pair g t c =
    let e = plain_expr c.args.expr.now in
    of_form (λ b. expr_tokens (paired b e (neat_expr e))) c.if-pair.false c.expression.ensures

pub placed-returns : goal.placed-returns
placed-returns g t c =
    let e = plain_expr c.args.expr.now in
    of_form (λ b. expr_tokens (paired b e (neat_expr e))) (sym c.is_looser.ensures) c.paired.ensures

pub concise_body-returns-in-ExpressionBody : goal.concise_body-returns-in-ExpressionBody
concise_body-returns-in-ExpressionBody g t c =
    let e = plain_expr c.in-ExpressionBody.value in
    let is : plain_concise_body c.args.body.now ≡ tree.ExpressionBody e = grind (arith, tree_rules) in
    of_form (λ b. concise_tokens (neat_concise b)) is (last_as (ap (λ b. paired b e (neat_expr e)) c.stands_in_pair_as_body.ensures ∙ sym (body_is e)) c.paired.ensures)

pub concise_body-returns-in-BlockBody : goal.concise_body-returns-in-BlockBody
concise_body-returns-in-BlockBody g t c =
    let is : plain_concise_body c.args.body.now ≡ tree.BlockBody (plain_function_body c.in-BlockBody.body) = grind (arith, tree_rules) in
    of_form (λ b. concise_tokens (neat_concise b)) is c.function_body.ensures

pub function_body-returns : goal.function_body-returns
function_body-returns g t c =
    let is : plain_function_body c.args.body.now ≡ tree.MakeFunctionBody (out-FunctionBody c.args.body.now).loc (plain_stmts c.as_slice.result.now) = grind (arith, tree_rules) in
    of_form (λ b. body_tokens (neat_body b)) is c.block.ensures

pub param-returns : goal.param-returns
param-returns g t c =
    let l = (out-Param c.args.param.now).loc in
    let x = plain_pattern (out-Param c.args.param.now).pattern in
    let is : plain_param c.args.param.now ≡ tree.MakeParam l x (plain_expr_if (out-Param c.args.param.now).default) = grind (arith, tree_rules) in
    of_form (λ p. param_tokens (neat_param p)) is (part (pattern_tokens l x) c.pattern.ensures c.initializer.ensures)

pub declarator-returns : goal.declarator-returns
declarator-returns g t c =
    let l = (out-Declarator c.args.declarator.now).loc in
    let x = plain_pattern (out-Declarator c.args.declarator.now).pattern in
    let is : plain_declarator c.args.declarator.now ≡ tree.MakeDeclarator l x (plain_expr_if (out-Declarator c.args.declarator.now).initializer) = grind (arith, tree_rules) in
    of_form (λ d. declarator_tokens (neat_declarator c.args.head d)) is (begins_pattern l l x _ c.begin.ensures (part (pattern_tokens l x) c.pattern.ensures c.initializer.ensures))

pub initializer-returns-in-Some : goal.initializer-returns-in-Some
initializer-returns-in-Some g t c =
    let e = plain_expr c.get-value.result.now in
    let is : plain_expr_if c.args.value.now ≡ tree.some_expr e = grind (arith, tree_rules) in
    of_form (λ e. initializer_tokens c.args.loc (neat_initializer c.args.head e)) is (one c.mark.ensures (last_as (ap (λ b. paired b e (neat_expr e)) c.stands_in_pair_as_initializer.ensures ∙ sym (initializer_is c.args.head e)) c.paired.ensures))

pub catch-returns-in-None : goal.catch-returns-in-None
catch-returns-in-None g t c =
    let is : plain_catch c.args.catch.now ≡ tree.MakeCatch tree.none_pattern (plain_stmts c.as_slice.result.now) = grind (arith, tree_rules) in
    of_form (λ k. catch_tokens c.args.loc (neat_catch k)) is (one c.word.ensures c.block.ensures)

pub catch-returns-in-Some : goal.catch-returns-in-Some
catch-returns-in-Some g t c =
    let x = plain_pattern c.in-Some.bound in
    let is : plain_catch c.args.catch.now ≡ tree.MakeCatch (tree.some_pattern x) (plain_stmts c.as_slice-in-Some.result.now) = grind (arith, tree_rules) in
    of_form (λ k. catch_tokens c.args.loc (neat_catch k)) is (one c.word.ensures (one c.mark.ensures (part (pattern_tokens c.args.loc x) c.pattern.ensures (one c.mark-in-Some.ensures c.block-in-Some.ensures))))

pub template_part-returns-clause-middle : goal.template_part-returns-clause-middle
template_part-returns-clause-middle g t c =
    let e = plain_expr (out-TemplatePart c.args.part.now).value in
    let is : plain_template_part c.args.part.now ≡ tree.MakeTemplatePart e (out-TemplatePart c.args.part.now).text = grind (arith, tree_rules) in
    of_form (λ p. part_tokens T.TemplateMiddle c.args.loc p) is (part (expr_tokens (neat_expr e)) c.expression.ensures ((put_as (λ w. token c.args.loc (T.TemplateMiddle w) ∷ []) c.as_str.ensures c.literal.ensures.middle)))

pub template_part-returns-clause-tail : goal.template_part-returns-clause-tail
template_part-returns-clause-tail g t c =
    let e = plain_expr (out-TemplatePart c.args.part.now).value in
    let is : plain_template_part c.args.part.now ≡ tree.MakeTemplatePart e (out-TemplatePart c.args.part.now).text = grind (arith, tree_rules) in
    of_form (λ p. part_tokens T.TemplateTail c.args.loc p) is (part (expr_tokens (neat_expr e)) c.expression.ensures ((put_as (λ w. token c.args.loc (T.TemplateTail w) ∷ []) c.as_str.ensures c.literal.ensures.tail)))
