-- What the plain tree of each form is: an equation a form, for the rulesets at the end.
use Rattle.std.proofs.Common.{◌≡◌, ℕ, Bool, List, [], ◌∷◌, ◌++◌, map, Option, Some, None, refl, ap, sym, ◌∙◌, append_assoc, append-nil}
use Rattle.js_tree.specs.Plain as P
use Rattle.js_terms.specs.declared.operators.AssignmentOperator.{AssignmentOperator}
use Rattle.js_terms.specs.declared.operators.BinaryOperator.{BinaryOperator}
use Rattle.js_terms.specs.declared.operators.LogicalOperator.{LogicalOperator}
use Rattle.js_terms.specs.declared.operators.UnaryOperator.{UnaryOperator}
use Rattle.js_terms.specs.declared.operators.UpdateOperator.{UpdateOperator}
use Rattle.js_terms.specs.declared.operators.VariableKind.{VariableKind}
use Rattle.js_terms.specs.declared.place.Loc.{Loc}
use Rattle.js_terms.specs.declared.words.Identifier.{Identifier}
use Rattle.js_terms.specs.declared.words.Spelled.{Spelled}
use Rattle.js_tree.specs.declared.tree.Case.{Case}
use Rattle.js_tree.specs.declared.tree.Catch.{Catch}
use Rattle.js_tree.specs.declared.tree.ConciseBody.{ConciseBody}
use Rattle.js_tree.specs.declared.tree.Declarator.{Declarator}
use Rattle.js_tree.specs.declared.tree.Expr.{Expr}
use Rattle.js_tree.specs.declared.tree.ExprNode.{ExprNode}
use Rattle.js_tree.specs.declared.tree.ForInit.{ForInit}
use Rattle.js_tree.specs.declared.tree.ForTarget.{ForTarget}
use Rattle.js_tree.specs.declared.tree.Function.{Function}
use Rattle.js_tree.specs.declared.tree.FunctionBody.{FunctionBody}
use Rattle.js_tree.specs.declared.tree.Param.{Param}
use Rattle.js_tree.specs.declared.tree.Pattern.{Pattern}
use Rattle.js_tree.specs.declared.tree.Property.{Property}
use Rattle.js_tree.specs.declared.tree.PropertyKey.{PropertyKey}
use Rattle.js_tree.specs.declared.tree.PropertyNode.{PropertyNode}
use Rattle.js_tree.specs.declared.tree.Stmt.{Stmt}
use Rattle.js_tree.specs.declared.tree.StmtNode.{StmtNode}
use Rattle.js_tree.specs.declared.tree.TemplatePart.{TemplatePart}
use Rattle.js_tree.specs.declared.tree.ConciseBody.TheVariants as concise_body
use Rattle.js_tree.specs.declared.tree.ExprNode.TheVariants as expr_node
use Rattle.js_tree.specs.declared.tree.ForInit.TheVariants as for_init
use Rattle.js_tree.specs.declared.tree.ForTarget.TheVariants as for_target
use Rattle.js_tree.specs.declared.tree.PropertyKey.TheVariants as property_key
use Rattle.js_tree.specs.declared.tree.PropertyNode.TheVariants as property_node
use Rattle.js_tree.specs.declared.tree.StmtNode.TheVariants as stmt_node
use Rattle.js_tree.specs.declared.tree.PatternNode.TheVariants as pattern_node
use Rattle.js_tree.specs.declared.tree.ConciseBody.TheOpen.{ConciseBody-F, ExprNode-F, ForInit-F, ForTarget-F, PropertyKey-F, PropertyNode-F, StmtNode-F, Case-F, Catch-F, Declarator-F, Expr-F, Function-F, FunctionBody-F, Param-F, Property-F, Stmt-F, TemplatePart-F}
use Rattle.js_tree.specs.declared.tree.ConciseBody.TheViews.{the_lemmas, roll-ConciseBody, out-ConciseBody, roll-out-ConciseBody, roll-ExprNode, out-ExprNode, roll-out-ExprNode, roll-ForInit, out-ForInit, roll-out-ForInit, roll-ForTarget, out-ForTarget, roll-out-ForTarget, roll-PropertyKey, out-PropertyKey, roll-out-PropertyKey, roll-PropertyNode, out-PropertyNode, roll-out-PropertyNode, roll-StmtNode, out-StmtNode, roll-out-StmtNode, roll-Case, out-Case, roll-out-Case, roll-Catch, out-Catch, roll-out-Catch, roll-Declarator, out-Declarator, roll-out-Declarator, roll-Expr, out-Expr, roll-out-Expr, roll-Function, out-Function, roll-out-Function, roll-FunctionBody, out-FunctionBody, roll-out-FunctionBody, roll-Param, out-Param, roll-out-Param, roll-Property, out-Property, roll-out-Property, roll-Stmt, out-Stmt, roll-out-Stmt, roll-TemplatePart, out-TemplatePart, roll-out-TemplatePart}
use Rattle.js_tree.specs.declared.tree.ConciseBody.TheFolds.{fold-roll-ConciseBody, map-ConciseBody, fold-roll-ExprNode, map-ExprNode, fold-roll-ForInit, map-ForInit, fold-roll-ForTarget, map-ForTarget, fold-roll-PropertyKey, map-PropertyKey, fold-roll-PropertyNode, map-PropertyNode, fold-roll-StmtNode, map-StmtNode, fold-roll-Case, map-Case, fold-roll-Catch, map-Catch, fold-roll-Declarator, map-Declarator, fold-roll-Expr, map-Expr, fold-roll-Function, map-Function, fold-roll-FunctionBody, map-FunctionBody, fold-roll-Param, map-Param, fold-roll-Property, map-Property, fold-roll-Stmt, map-Stmt, fold-roll-TemplatePart, map-TemplatePart}
use Rattle.js_tree.specs.Tree.{plain_concise_body, plain_expr_node, plain_for_init, plain_for_target, plain_property_key, plain_property_node, plain_stmt_node, plain_case, plain_catch, plain_declarator, plain_expr, plain_function, plain_function_body, plain_param, plain_property, plain_stmt, plain_template_part, concise_body_step, expr_node_step, for_init_step, for_target_step, property_key_step, property_node_step, stmt_node_step, case_step, catch_step, declarator_step, expr_step, function_step, function_body_step, param_step, property_step, stmt_step, template_part_step, template_parts_of, plain_template_parts, properties_of, plain_properties, params_of, plain_params, exprs_of, plain_exprs, stmts_of, plain_stmts, declarators_of, plain_declarators, cases_of, plain_cases, plain_pattern, plain_pattern_node, plain_pattern_if, plain_expr_if, plain_stmt_if}

template_parts_same : (xs : List TemplatePart) → template_parts_of (map plain_template_part xs) ≡ plain_template_parts xs
template_parts_same [] = refl
template_parts_same (x ∷ xs) = ap (P.more_template_part (plain_template_part x)) (template_parts_same xs)

properties_same : (xs : List Property) → properties_of (map plain_property xs) ≡ plain_properties xs
properties_same [] = refl
properties_same (x ∷ xs) = ap (P.more_property (plain_property x)) (properties_same xs)

params_same : (xs : List Param) → params_of (map plain_param xs) ≡ plain_params xs
params_same [] = refl
params_same (x ∷ xs) = ap (P.more_param (plain_param x)) (params_same xs)

exprs_same : (xs : List Expr) → exprs_of (map plain_expr xs) ≡ plain_exprs xs
exprs_same [] = refl
exprs_same (x ∷ xs) = ap (P.more_expr (plain_expr x)) (exprs_same xs)

stmts_same : (xs : List Stmt) → stmts_of (map plain_stmt xs) ≡ plain_stmts xs
stmts_same [] = refl
stmts_same (x ∷ xs) = ap (P.more_stmt (plain_stmt x)) (stmts_same xs)

declarators_same : (xs : List Declarator) → declarators_of (map plain_declarator xs) ≡ plain_declarators xs
declarators_same [] = refl
declarators_same (x ∷ xs) = ap (P.more_declarator (plain_declarator x)) (declarators_same xs)

cases_same : (xs : List Case) → cases_of (map plain_case xs) ≡ plain_cases xs
cases_same [] = refl
cases_same (x ∷ xs) = ap (P.more_case (plain_case x)) (cases_same xs)

pub template_parts_push : (xs : List TemplatePart) (x : TemplatePart) → plain_template_parts (xs ++ x ∷ []) ≡ P.push_template_parts (plain_template_parts xs) (plain_template_part x)
template_parts_push [] x = refl
template_parts_push (y ∷ ys) x = ap (P.more_template_part (plain_template_part y)) (template_parts_push ys x)

pub properties_push : (xs : List Property) (x : Property) → plain_properties (xs ++ x ∷ []) ≡ P.push_properties (plain_properties xs) (plain_property x)
properties_push [] x = refl
properties_push (y ∷ ys) x = ap (P.more_property (plain_property y)) (properties_push ys x)

pub params_push : (xs : List Param) (x : Param) → plain_params (xs ++ x ∷ []) ≡ P.push_params (plain_params xs) (plain_param x)
params_push [] x = refl
params_push (y ∷ ys) x = ap (P.more_param (plain_param y)) (params_push ys x)

pub exprs_push : (xs : List Expr) (x : Expr) → plain_exprs (xs ++ x ∷ []) ≡ P.push_exprs (plain_exprs xs) (plain_expr x)
exprs_push [] x = refl
exprs_push (y ∷ ys) x = ap (P.more_expr (plain_expr y)) (exprs_push ys x)

pub stmts_push : (xs : List Stmt) (x : Stmt) → plain_stmts (xs ++ x ∷ []) ≡ P.push_stmts (plain_stmts xs) (plain_stmt x)
stmts_push [] x = refl
stmts_push (y ∷ ys) x = ap (P.more_stmt (plain_stmt y)) (stmts_push ys x)

pub declarators_push : (xs : List Declarator) (x : Declarator) → plain_declarators (xs ++ x ∷ []) ≡ P.push_declarators (plain_declarators xs) (plain_declarator x)
declarators_push [] x = refl
declarators_push (y ∷ ys) x = ap (P.more_declarator (plain_declarator y)) (declarators_push ys x)

pub cases_push : (xs : List Case) (x : Case) → plain_cases (xs ++ x ∷ []) ≡ P.push_cases (plain_cases xs) (plain_case x)
cases_push [] x = refl
cases_push (y ∷ ys) x = ap (P.more_case (plain_case y)) (cases_push ys x)

pub expr_if_none : plain_expr_if None ≡ P.none_expr
unfolding plain_expr_if
expr_if_none = refl

pub expr_if_some : (x : Expr) → plain_expr_if (Some x) ≡ P.some_expr (plain_expr x)
unfolding plain_expr_if
expr_if_some x = refl

pub stmt_if_none : plain_stmt_if None ≡ P.none_stmt
unfolding plain_stmt_if
stmt_if_none = refl

pub stmt_if_some : (x : Stmt) → plain_stmt_if (Some x) ≡ P.some_stmt (plain_stmt x)
unfolding plain_stmt_if
stmt_if_some x = refl

pub pattern_if_none : plain_pattern_if None ≡ P.none_pattern
unfolding plain_pattern_if
pattern_if_none = refl

pub pattern_if_some : (x : Pattern) → plain_pattern_if (Some x) ≡ P.some_pattern (plain_pattern x)
unfolding plain_pattern_if
pattern_if_some x = refl

pub pattern_binding_identifier : (name : List ℕ) (loc : Option Loc) → plain_pattern_node (pattern_node.BindingIdentifier name) loc ≡ P.BindingIdentifier loc name
unfolding plain_pattern_node
pattern_binding_identifier name loc = refl

pub pattern_made : (x : Pattern) → plain_pattern x ≡ plain_pattern_node x.node x.loc
unfolding plain_pattern
pattern_made x = refl

roll_concise_body : (x : ConciseBody-F ConciseBody ExprNode ForInit ForTarget PropertyKey PropertyNode StmtNode Case Catch Declarator Expr Function FunctionBody Param Property Stmt TemplatePart) → plain_concise_body (roll-ConciseBody x) ≡ concise_body_step (map-ConciseBody ConciseBody ExprNode ForInit ForTarget PropertyKey PropertyNode StmtNode Case Catch Declarator Expr Function FunctionBody Param Property Stmt TemplatePart P.ConciseBody (Option Loc → P.Expr) P.ForInit P.ForTarget P.PropertyKey (Option Loc → P.Property) (Option Loc → P.Stmt) P.Case P.Catch P.Declarator P.Expr P.Function P.FunctionBody P.Param P.Property P.Stmt P.TemplatePart plain_concise_body plain_expr_node plain_for_init plain_for_target plain_property_key plain_property_node plain_stmt_node plain_case plain_catch plain_declarator plain_expr plain_function plain_function_body plain_param plain_property plain_stmt plain_template_part x)
unfolding plain_concise_body plain_expr_node plain_for_init plain_for_target plain_property_key plain_property_node plain_stmt_node plain_case plain_catch plain_declarator plain_expr plain_function plain_function_body plain_param plain_property plain_stmt plain_template_part
roll_concise_body = fold-roll-ConciseBody P.ConciseBody (Option Loc → P.Expr) P.ForInit P.ForTarget P.PropertyKey (Option Loc → P.Property) (Option Loc → P.Stmt) P.Case P.Catch P.Declarator P.Expr P.Function P.FunctionBody P.Param P.Property P.Stmt P.TemplatePart concise_body_step expr_node_step for_init_step for_target_step property_key_step property_node_step stmt_node_step case_step catch_step declarator_step expr_step function_step function_body_step param_step property_step stmt_step template_part_step

roll_expr_node : (x : ExprNode-F ConciseBody ExprNode ForInit ForTarget PropertyKey PropertyNode StmtNode Case Catch Declarator Expr Function FunctionBody Param Property Stmt TemplatePart) → plain_expr_node (roll-ExprNode x) ≡ expr_node_step (map-ExprNode ConciseBody ExprNode ForInit ForTarget PropertyKey PropertyNode StmtNode Case Catch Declarator Expr Function FunctionBody Param Property Stmt TemplatePart P.ConciseBody (Option Loc → P.Expr) P.ForInit P.ForTarget P.PropertyKey (Option Loc → P.Property) (Option Loc → P.Stmt) P.Case P.Catch P.Declarator P.Expr P.Function P.FunctionBody P.Param P.Property P.Stmt P.TemplatePart plain_concise_body plain_expr_node plain_for_init plain_for_target plain_property_key plain_property_node plain_stmt_node plain_case plain_catch plain_declarator plain_expr plain_function plain_function_body plain_param plain_property plain_stmt plain_template_part x)
unfolding plain_concise_body plain_expr_node plain_for_init plain_for_target plain_property_key plain_property_node plain_stmt_node plain_case plain_catch plain_declarator plain_expr plain_function plain_function_body plain_param plain_property plain_stmt plain_template_part
roll_expr_node = fold-roll-ExprNode P.ConciseBody (Option Loc → P.Expr) P.ForInit P.ForTarget P.PropertyKey (Option Loc → P.Property) (Option Loc → P.Stmt) P.Case P.Catch P.Declarator P.Expr P.Function P.FunctionBody P.Param P.Property P.Stmt P.TemplatePart concise_body_step expr_node_step for_init_step for_target_step property_key_step property_node_step stmt_node_step case_step catch_step declarator_step expr_step function_step function_body_step param_step property_step stmt_step template_part_step

roll_for_init : (x : ForInit-F ConciseBody ExprNode ForInit ForTarget PropertyKey PropertyNode StmtNode Case Catch Declarator Expr Function FunctionBody Param Property Stmt TemplatePart) → plain_for_init (roll-ForInit x) ≡ for_init_step (map-ForInit ConciseBody ExprNode ForInit ForTarget PropertyKey PropertyNode StmtNode Case Catch Declarator Expr Function FunctionBody Param Property Stmt TemplatePart P.ConciseBody (Option Loc → P.Expr) P.ForInit P.ForTarget P.PropertyKey (Option Loc → P.Property) (Option Loc → P.Stmt) P.Case P.Catch P.Declarator P.Expr P.Function P.FunctionBody P.Param P.Property P.Stmt P.TemplatePart plain_concise_body plain_expr_node plain_for_init plain_for_target plain_property_key plain_property_node plain_stmt_node plain_case plain_catch plain_declarator plain_expr plain_function plain_function_body plain_param plain_property plain_stmt plain_template_part x)
unfolding plain_concise_body plain_expr_node plain_for_init plain_for_target plain_property_key plain_property_node plain_stmt_node plain_case plain_catch plain_declarator plain_expr plain_function plain_function_body plain_param plain_property plain_stmt plain_template_part
roll_for_init = fold-roll-ForInit P.ConciseBody (Option Loc → P.Expr) P.ForInit P.ForTarget P.PropertyKey (Option Loc → P.Property) (Option Loc → P.Stmt) P.Case P.Catch P.Declarator P.Expr P.Function P.FunctionBody P.Param P.Property P.Stmt P.TemplatePart concise_body_step expr_node_step for_init_step for_target_step property_key_step property_node_step stmt_node_step case_step catch_step declarator_step expr_step function_step function_body_step param_step property_step stmt_step template_part_step

roll_for_target : (x : ForTarget-F ConciseBody ExprNode ForInit ForTarget PropertyKey PropertyNode StmtNode Case Catch Declarator Expr Function FunctionBody Param Property Stmt TemplatePart) → plain_for_target (roll-ForTarget x) ≡ for_target_step (map-ForTarget ConciseBody ExprNode ForInit ForTarget PropertyKey PropertyNode StmtNode Case Catch Declarator Expr Function FunctionBody Param Property Stmt TemplatePart P.ConciseBody (Option Loc → P.Expr) P.ForInit P.ForTarget P.PropertyKey (Option Loc → P.Property) (Option Loc → P.Stmt) P.Case P.Catch P.Declarator P.Expr P.Function P.FunctionBody P.Param P.Property P.Stmt P.TemplatePart plain_concise_body plain_expr_node plain_for_init plain_for_target plain_property_key plain_property_node plain_stmt_node plain_case plain_catch plain_declarator plain_expr plain_function plain_function_body plain_param plain_property plain_stmt plain_template_part x)
unfolding plain_concise_body plain_expr_node plain_for_init plain_for_target plain_property_key plain_property_node plain_stmt_node plain_case plain_catch plain_declarator plain_expr plain_function plain_function_body plain_param plain_property plain_stmt plain_template_part
roll_for_target = fold-roll-ForTarget P.ConciseBody (Option Loc → P.Expr) P.ForInit P.ForTarget P.PropertyKey (Option Loc → P.Property) (Option Loc → P.Stmt) P.Case P.Catch P.Declarator P.Expr P.Function P.FunctionBody P.Param P.Property P.Stmt P.TemplatePart concise_body_step expr_node_step for_init_step for_target_step property_key_step property_node_step stmt_node_step case_step catch_step declarator_step expr_step function_step function_body_step param_step property_step stmt_step template_part_step

roll_property_key : (x : PropertyKey-F ConciseBody ExprNode ForInit ForTarget PropertyKey PropertyNode StmtNode Case Catch Declarator Expr Function FunctionBody Param Property Stmt TemplatePart) → plain_property_key (roll-PropertyKey x) ≡ property_key_step (map-PropertyKey ConciseBody ExprNode ForInit ForTarget PropertyKey PropertyNode StmtNode Case Catch Declarator Expr Function FunctionBody Param Property Stmt TemplatePart P.ConciseBody (Option Loc → P.Expr) P.ForInit P.ForTarget P.PropertyKey (Option Loc → P.Property) (Option Loc → P.Stmt) P.Case P.Catch P.Declarator P.Expr P.Function P.FunctionBody P.Param P.Property P.Stmt P.TemplatePart plain_concise_body plain_expr_node plain_for_init plain_for_target plain_property_key plain_property_node plain_stmt_node plain_case plain_catch plain_declarator plain_expr plain_function plain_function_body plain_param plain_property plain_stmt plain_template_part x)
unfolding plain_concise_body plain_expr_node plain_for_init plain_for_target plain_property_key plain_property_node plain_stmt_node plain_case plain_catch plain_declarator plain_expr plain_function plain_function_body plain_param plain_property plain_stmt plain_template_part
roll_property_key = fold-roll-PropertyKey P.ConciseBody (Option Loc → P.Expr) P.ForInit P.ForTarget P.PropertyKey (Option Loc → P.Property) (Option Loc → P.Stmt) P.Case P.Catch P.Declarator P.Expr P.Function P.FunctionBody P.Param P.Property P.Stmt P.TemplatePart concise_body_step expr_node_step for_init_step for_target_step property_key_step property_node_step stmt_node_step case_step catch_step declarator_step expr_step function_step function_body_step param_step property_step stmt_step template_part_step

roll_property_node : (x : PropertyNode-F ConciseBody ExprNode ForInit ForTarget PropertyKey PropertyNode StmtNode Case Catch Declarator Expr Function FunctionBody Param Property Stmt TemplatePart) → plain_property_node (roll-PropertyNode x) ≡ property_node_step (map-PropertyNode ConciseBody ExprNode ForInit ForTarget PropertyKey PropertyNode StmtNode Case Catch Declarator Expr Function FunctionBody Param Property Stmt TemplatePart P.ConciseBody (Option Loc → P.Expr) P.ForInit P.ForTarget P.PropertyKey (Option Loc → P.Property) (Option Loc → P.Stmt) P.Case P.Catch P.Declarator P.Expr P.Function P.FunctionBody P.Param P.Property P.Stmt P.TemplatePart plain_concise_body plain_expr_node plain_for_init plain_for_target plain_property_key plain_property_node plain_stmt_node plain_case plain_catch plain_declarator plain_expr plain_function plain_function_body plain_param plain_property plain_stmt plain_template_part x)
unfolding plain_concise_body plain_expr_node plain_for_init plain_for_target plain_property_key plain_property_node plain_stmt_node plain_case plain_catch plain_declarator plain_expr plain_function plain_function_body plain_param plain_property plain_stmt plain_template_part
roll_property_node = fold-roll-PropertyNode P.ConciseBody (Option Loc → P.Expr) P.ForInit P.ForTarget P.PropertyKey (Option Loc → P.Property) (Option Loc → P.Stmt) P.Case P.Catch P.Declarator P.Expr P.Function P.FunctionBody P.Param P.Property P.Stmt P.TemplatePart concise_body_step expr_node_step for_init_step for_target_step property_key_step property_node_step stmt_node_step case_step catch_step declarator_step expr_step function_step function_body_step param_step property_step stmt_step template_part_step

roll_stmt_node : (x : StmtNode-F ConciseBody ExprNode ForInit ForTarget PropertyKey PropertyNode StmtNode Case Catch Declarator Expr Function FunctionBody Param Property Stmt TemplatePart) → plain_stmt_node (roll-StmtNode x) ≡ stmt_node_step (map-StmtNode ConciseBody ExprNode ForInit ForTarget PropertyKey PropertyNode StmtNode Case Catch Declarator Expr Function FunctionBody Param Property Stmt TemplatePart P.ConciseBody (Option Loc → P.Expr) P.ForInit P.ForTarget P.PropertyKey (Option Loc → P.Property) (Option Loc → P.Stmt) P.Case P.Catch P.Declarator P.Expr P.Function P.FunctionBody P.Param P.Property P.Stmt P.TemplatePart plain_concise_body plain_expr_node plain_for_init plain_for_target plain_property_key plain_property_node plain_stmt_node plain_case plain_catch plain_declarator plain_expr plain_function plain_function_body plain_param plain_property plain_stmt plain_template_part x)
unfolding plain_concise_body plain_expr_node plain_for_init plain_for_target plain_property_key plain_property_node plain_stmt_node plain_case plain_catch plain_declarator plain_expr plain_function plain_function_body plain_param plain_property plain_stmt plain_template_part
roll_stmt_node = fold-roll-StmtNode P.ConciseBody (Option Loc → P.Expr) P.ForInit P.ForTarget P.PropertyKey (Option Loc → P.Property) (Option Loc → P.Stmt) P.Case P.Catch P.Declarator P.Expr P.Function P.FunctionBody P.Param P.Property P.Stmt P.TemplatePart concise_body_step expr_node_step for_init_step for_target_step property_key_step property_node_step stmt_node_step case_step catch_step declarator_step expr_step function_step function_body_step param_step property_step stmt_step template_part_step

roll_case : (x : Case-F ConciseBody ExprNode ForInit ForTarget PropertyKey PropertyNode StmtNode Case Catch Declarator Expr Function FunctionBody Param Property Stmt TemplatePart) → plain_case (roll-Case x) ≡ case_step (map-Case ConciseBody ExprNode ForInit ForTarget PropertyKey PropertyNode StmtNode Case Catch Declarator Expr Function FunctionBody Param Property Stmt TemplatePart P.ConciseBody (Option Loc → P.Expr) P.ForInit P.ForTarget P.PropertyKey (Option Loc → P.Property) (Option Loc → P.Stmt) P.Case P.Catch P.Declarator P.Expr P.Function P.FunctionBody P.Param P.Property P.Stmt P.TemplatePart plain_concise_body plain_expr_node plain_for_init plain_for_target plain_property_key plain_property_node plain_stmt_node plain_case plain_catch plain_declarator plain_expr plain_function plain_function_body plain_param plain_property plain_stmt plain_template_part x)
unfolding plain_concise_body plain_expr_node plain_for_init plain_for_target plain_property_key plain_property_node plain_stmt_node plain_case plain_catch plain_declarator plain_expr plain_function plain_function_body plain_param plain_property plain_stmt plain_template_part
roll_case = fold-roll-Case P.ConciseBody (Option Loc → P.Expr) P.ForInit P.ForTarget P.PropertyKey (Option Loc → P.Property) (Option Loc → P.Stmt) P.Case P.Catch P.Declarator P.Expr P.Function P.FunctionBody P.Param P.Property P.Stmt P.TemplatePart concise_body_step expr_node_step for_init_step for_target_step property_key_step property_node_step stmt_node_step case_step catch_step declarator_step expr_step function_step function_body_step param_step property_step stmt_step template_part_step

roll_catch : (x : Catch-F ConciseBody ExprNode ForInit ForTarget PropertyKey PropertyNode StmtNode Case Catch Declarator Expr Function FunctionBody Param Property Stmt TemplatePart) → plain_catch (roll-Catch x) ≡ catch_step (map-Catch ConciseBody ExprNode ForInit ForTarget PropertyKey PropertyNode StmtNode Case Catch Declarator Expr Function FunctionBody Param Property Stmt TemplatePart P.ConciseBody (Option Loc → P.Expr) P.ForInit P.ForTarget P.PropertyKey (Option Loc → P.Property) (Option Loc → P.Stmt) P.Case P.Catch P.Declarator P.Expr P.Function P.FunctionBody P.Param P.Property P.Stmt P.TemplatePart plain_concise_body plain_expr_node plain_for_init plain_for_target plain_property_key plain_property_node plain_stmt_node plain_case plain_catch plain_declarator plain_expr plain_function plain_function_body plain_param plain_property plain_stmt plain_template_part x)
unfolding plain_concise_body plain_expr_node plain_for_init plain_for_target plain_property_key plain_property_node plain_stmt_node plain_case plain_catch plain_declarator plain_expr plain_function plain_function_body plain_param plain_property plain_stmt plain_template_part
roll_catch = fold-roll-Catch P.ConciseBody (Option Loc → P.Expr) P.ForInit P.ForTarget P.PropertyKey (Option Loc → P.Property) (Option Loc → P.Stmt) P.Case P.Catch P.Declarator P.Expr P.Function P.FunctionBody P.Param P.Property P.Stmt P.TemplatePart concise_body_step expr_node_step for_init_step for_target_step property_key_step property_node_step stmt_node_step case_step catch_step declarator_step expr_step function_step function_body_step param_step property_step stmt_step template_part_step

roll_declarator : (x : Declarator-F ConciseBody ExprNode ForInit ForTarget PropertyKey PropertyNode StmtNode Case Catch Declarator Expr Function FunctionBody Param Property Stmt TemplatePart) → plain_declarator (roll-Declarator x) ≡ declarator_step (map-Declarator ConciseBody ExprNode ForInit ForTarget PropertyKey PropertyNode StmtNode Case Catch Declarator Expr Function FunctionBody Param Property Stmt TemplatePart P.ConciseBody (Option Loc → P.Expr) P.ForInit P.ForTarget P.PropertyKey (Option Loc → P.Property) (Option Loc → P.Stmt) P.Case P.Catch P.Declarator P.Expr P.Function P.FunctionBody P.Param P.Property P.Stmt P.TemplatePart plain_concise_body plain_expr_node plain_for_init plain_for_target plain_property_key plain_property_node plain_stmt_node plain_case plain_catch plain_declarator plain_expr plain_function plain_function_body plain_param plain_property plain_stmt plain_template_part x)
unfolding plain_concise_body plain_expr_node plain_for_init plain_for_target plain_property_key plain_property_node plain_stmt_node plain_case plain_catch plain_declarator plain_expr plain_function plain_function_body plain_param plain_property plain_stmt plain_template_part
roll_declarator = fold-roll-Declarator P.ConciseBody (Option Loc → P.Expr) P.ForInit P.ForTarget P.PropertyKey (Option Loc → P.Property) (Option Loc → P.Stmt) P.Case P.Catch P.Declarator P.Expr P.Function P.FunctionBody P.Param P.Property P.Stmt P.TemplatePart concise_body_step expr_node_step for_init_step for_target_step property_key_step property_node_step stmt_node_step case_step catch_step declarator_step expr_step function_step function_body_step param_step property_step stmt_step template_part_step

roll_expr : (x : Expr-F ConciseBody ExprNode ForInit ForTarget PropertyKey PropertyNode StmtNode Case Catch Declarator Expr Function FunctionBody Param Property Stmt TemplatePart) → plain_expr (roll-Expr x) ≡ expr_step (map-Expr ConciseBody ExprNode ForInit ForTarget PropertyKey PropertyNode StmtNode Case Catch Declarator Expr Function FunctionBody Param Property Stmt TemplatePart P.ConciseBody (Option Loc → P.Expr) P.ForInit P.ForTarget P.PropertyKey (Option Loc → P.Property) (Option Loc → P.Stmt) P.Case P.Catch P.Declarator P.Expr P.Function P.FunctionBody P.Param P.Property P.Stmt P.TemplatePart plain_concise_body plain_expr_node plain_for_init plain_for_target plain_property_key plain_property_node plain_stmt_node plain_case plain_catch plain_declarator plain_expr plain_function plain_function_body plain_param plain_property plain_stmt plain_template_part x)
unfolding plain_concise_body plain_expr_node plain_for_init plain_for_target plain_property_key plain_property_node plain_stmt_node plain_case plain_catch plain_declarator plain_expr plain_function plain_function_body plain_param plain_property plain_stmt plain_template_part
roll_expr = fold-roll-Expr P.ConciseBody (Option Loc → P.Expr) P.ForInit P.ForTarget P.PropertyKey (Option Loc → P.Property) (Option Loc → P.Stmt) P.Case P.Catch P.Declarator P.Expr P.Function P.FunctionBody P.Param P.Property P.Stmt P.TemplatePart concise_body_step expr_node_step for_init_step for_target_step property_key_step property_node_step stmt_node_step case_step catch_step declarator_step expr_step function_step function_body_step param_step property_step stmt_step template_part_step

roll_function : (x : Function-F ConciseBody ExprNode ForInit ForTarget PropertyKey PropertyNode StmtNode Case Catch Declarator Expr Function FunctionBody Param Property Stmt TemplatePart) → plain_function (roll-Function x) ≡ function_step (map-Function ConciseBody ExprNode ForInit ForTarget PropertyKey PropertyNode StmtNode Case Catch Declarator Expr Function FunctionBody Param Property Stmt TemplatePart P.ConciseBody (Option Loc → P.Expr) P.ForInit P.ForTarget P.PropertyKey (Option Loc → P.Property) (Option Loc → P.Stmt) P.Case P.Catch P.Declarator P.Expr P.Function P.FunctionBody P.Param P.Property P.Stmt P.TemplatePart plain_concise_body plain_expr_node plain_for_init plain_for_target plain_property_key plain_property_node plain_stmt_node plain_case plain_catch plain_declarator plain_expr plain_function plain_function_body plain_param plain_property plain_stmt plain_template_part x)
unfolding plain_concise_body plain_expr_node plain_for_init plain_for_target plain_property_key plain_property_node plain_stmt_node plain_case plain_catch plain_declarator plain_expr plain_function plain_function_body plain_param plain_property plain_stmt plain_template_part
roll_function = fold-roll-Function P.ConciseBody (Option Loc → P.Expr) P.ForInit P.ForTarget P.PropertyKey (Option Loc → P.Property) (Option Loc → P.Stmt) P.Case P.Catch P.Declarator P.Expr P.Function P.FunctionBody P.Param P.Property P.Stmt P.TemplatePart concise_body_step expr_node_step for_init_step for_target_step property_key_step property_node_step stmt_node_step case_step catch_step declarator_step expr_step function_step function_body_step param_step property_step stmt_step template_part_step

roll_function_body : (x : FunctionBody-F ConciseBody ExprNode ForInit ForTarget PropertyKey PropertyNode StmtNode Case Catch Declarator Expr Function FunctionBody Param Property Stmt TemplatePart) → plain_function_body (roll-FunctionBody x) ≡ function_body_step (map-FunctionBody ConciseBody ExprNode ForInit ForTarget PropertyKey PropertyNode StmtNode Case Catch Declarator Expr Function FunctionBody Param Property Stmt TemplatePart P.ConciseBody (Option Loc → P.Expr) P.ForInit P.ForTarget P.PropertyKey (Option Loc → P.Property) (Option Loc → P.Stmt) P.Case P.Catch P.Declarator P.Expr P.Function P.FunctionBody P.Param P.Property P.Stmt P.TemplatePart plain_concise_body plain_expr_node plain_for_init plain_for_target plain_property_key plain_property_node plain_stmt_node plain_case plain_catch plain_declarator plain_expr plain_function plain_function_body plain_param plain_property plain_stmt plain_template_part x)
unfolding plain_concise_body plain_expr_node plain_for_init plain_for_target plain_property_key plain_property_node plain_stmt_node plain_case plain_catch plain_declarator plain_expr plain_function plain_function_body plain_param plain_property plain_stmt plain_template_part
roll_function_body = fold-roll-FunctionBody P.ConciseBody (Option Loc → P.Expr) P.ForInit P.ForTarget P.PropertyKey (Option Loc → P.Property) (Option Loc → P.Stmt) P.Case P.Catch P.Declarator P.Expr P.Function P.FunctionBody P.Param P.Property P.Stmt P.TemplatePart concise_body_step expr_node_step for_init_step for_target_step property_key_step property_node_step stmt_node_step case_step catch_step declarator_step expr_step function_step function_body_step param_step property_step stmt_step template_part_step

roll_param : (x : Param-F ConciseBody ExprNode ForInit ForTarget PropertyKey PropertyNode StmtNode Case Catch Declarator Expr Function FunctionBody Param Property Stmt TemplatePart) → plain_param (roll-Param x) ≡ param_step (map-Param ConciseBody ExprNode ForInit ForTarget PropertyKey PropertyNode StmtNode Case Catch Declarator Expr Function FunctionBody Param Property Stmt TemplatePart P.ConciseBody (Option Loc → P.Expr) P.ForInit P.ForTarget P.PropertyKey (Option Loc → P.Property) (Option Loc → P.Stmt) P.Case P.Catch P.Declarator P.Expr P.Function P.FunctionBody P.Param P.Property P.Stmt P.TemplatePart plain_concise_body plain_expr_node plain_for_init plain_for_target plain_property_key plain_property_node plain_stmt_node plain_case plain_catch plain_declarator plain_expr plain_function plain_function_body plain_param plain_property plain_stmt plain_template_part x)
unfolding plain_concise_body plain_expr_node plain_for_init plain_for_target plain_property_key plain_property_node plain_stmt_node plain_case plain_catch plain_declarator plain_expr plain_function plain_function_body plain_param plain_property plain_stmt plain_template_part
roll_param = fold-roll-Param P.ConciseBody (Option Loc → P.Expr) P.ForInit P.ForTarget P.PropertyKey (Option Loc → P.Property) (Option Loc → P.Stmt) P.Case P.Catch P.Declarator P.Expr P.Function P.FunctionBody P.Param P.Property P.Stmt P.TemplatePart concise_body_step expr_node_step for_init_step for_target_step property_key_step property_node_step stmt_node_step case_step catch_step declarator_step expr_step function_step function_body_step param_step property_step stmt_step template_part_step

roll_property : (x : Property-F ConciseBody ExprNode ForInit ForTarget PropertyKey PropertyNode StmtNode Case Catch Declarator Expr Function FunctionBody Param Property Stmt TemplatePart) → plain_property (roll-Property x) ≡ property_step (map-Property ConciseBody ExprNode ForInit ForTarget PropertyKey PropertyNode StmtNode Case Catch Declarator Expr Function FunctionBody Param Property Stmt TemplatePart P.ConciseBody (Option Loc → P.Expr) P.ForInit P.ForTarget P.PropertyKey (Option Loc → P.Property) (Option Loc → P.Stmt) P.Case P.Catch P.Declarator P.Expr P.Function P.FunctionBody P.Param P.Property P.Stmt P.TemplatePart plain_concise_body plain_expr_node plain_for_init plain_for_target plain_property_key plain_property_node plain_stmt_node plain_case plain_catch plain_declarator plain_expr plain_function plain_function_body plain_param plain_property plain_stmt plain_template_part x)
unfolding plain_concise_body plain_expr_node plain_for_init plain_for_target plain_property_key plain_property_node plain_stmt_node plain_case plain_catch plain_declarator plain_expr plain_function plain_function_body plain_param plain_property plain_stmt plain_template_part
roll_property = fold-roll-Property P.ConciseBody (Option Loc → P.Expr) P.ForInit P.ForTarget P.PropertyKey (Option Loc → P.Property) (Option Loc → P.Stmt) P.Case P.Catch P.Declarator P.Expr P.Function P.FunctionBody P.Param P.Property P.Stmt P.TemplatePart concise_body_step expr_node_step for_init_step for_target_step property_key_step property_node_step stmt_node_step case_step catch_step declarator_step expr_step function_step function_body_step param_step property_step stmt_step template_part_step

roll_stmt : (x : Stmt-F ConciseBody ExprNode ForInit ForTarget PropertyKey PropertyNode StmtNode Case Catch Declarator Expr Function FunctionBody Param Property Stmt TemplatePart) → plain_stmt (roll-Stmt x) ≡ stmt_step (map-Stmt ConciseBody ExprNode ForInit ForTarget PropertyKey PropertyNode StmtNode Case Catch Declarator Expr Function FunctionBody Param Property Stmt TemplatePart P.ConciseBody (Option Loc → P.Expr) P.ForInit P.ForTarget P.PropertyKey (Option Loc → P.Property) (Option Loc → P.Stmt) P.Case P.Catch P.Declarator P.Expr P.Function P.FunctionBody P.Param P.Property P.Stmt P.TemplatePart plain_concise_body plain_expr_node plain_for_init plain_for_target plain_property_key plain_property_node plain_stmt_node plain_case plain_catch plain_declarator plain_expr plain_function plain_function_body plain_param plain_property plain_stmt plain_template_part x)
unfolding plain_concise_body plain_expr_node plain_for_init plain_for_target plain_property_key plain_property_node plain_stmt_node plain_case plain_catch plain_declarator plain_expr plain_function plain_function_body plain_param plain_property plain_stmt plain_template_part
roll_stmt = fold-roll-Stmt P.ConciseBody (Option Loc → P.Expr) P.ForInit P.ForTarget P.PropertyKey (Option Loc → P.Property) (Option Loc → P.Stmt) P.Case P.Catch P.Declarator P.Expr P.Function P.FunctionBody P.Param P.Property P.Stmt P.TemplatePart concise_body_step expr_node_step for_init_step for_target_step property_key_step property_node_step stmt_node_step case_step catch_step declarator_step expr_step function_step function_body_step param_step property_step stmt_step template_part_step

roll_template_part : (x : TemplatePart-F ConciseBody ExprNode ForInit ForTarget PropertyKey PropertyNode StmtNode Case Catch Declarator Expr Function FunctionBody Param Property Stmt TemplatePart) → plain_template_part (roll-TemplatePart x) ≡ template_part_step (map-TemplatePart ConciseBody ExprNode ForInit ForTarget PropertyKey PropertyNode StmtNode Case Catch Declarator Expr Function FunctionBody Param Property Stmt TemplatePart P.ConciseBody (Option Loc → P.Expr) P.ForInit P.ForTarget P.PropertyKey (Option Loc → P.Property) (Option Loc → P.Stmt) P.Case P.Catch P.Declarator P.Expr P.Function P.FunctionBody P.Param P.Property P.Stmt P.TemplatePart plain_concise_body plain_expr_node plain_for_init plain_for_target plain_property_key plain_property_node plain_stmt_node plain_case plain_catch plain_declarator plain_expr plain_function plain_function_body plain_param plain_property plain_stmt plain_template_part x)
unfolding plain_concise_body plain_expr_node plain_for_init plain_for_target plain_property_key plain_property_node plain_stmt_node plain_case plain_catch plain_declarator plain_expr plain_function plain_function_body plain_param plain_property plain_stmt plain_template_part
roll_template_part = fold-roll-TemplatePart P.ConciseBody (Option Loc → P.Expr) P.ForInit P.ForTarget P.PropertyKey (Option Loc → P.Property) (Option Loc → P.Stmt) P.Case P.Catch P.Declarator P.Expr P.Function P.FunctionBody P.Param P.Property P.Stmt P.TemplatePart concise_body_step expr_node_step for_init_step for_target_step property_key_step property_node_step stmt_node_step case_step catch_step declarator_step expr_step function_step function_body_step param_step property_step stmt_step template_part_step

pub expr_identifier_reference : (name : List ℕ) (loc : Option Loc) → plain_expr_node (expr_node.IdentifierReference name) loc ≡ P.IdentifierReference loc name
expr_identifier_reference name loc = ap (λ (x : ExprNode). plain_expr_node x loc) (sym (expr_node.rolls-IdentifierReference name)) ∙ ap (λ (f : Option Loc → P.Expr). f loc) (roll_expr_node (ExprNode-F.IdentifierReference name))

pub expr_this : (loc : Option Loc) → plain_expr_node expr_node.This loc ≡ P.This loc
expr_this loc = ap (λ (x : ExprNode). plain_expr_node x loc) (sym (expr_node.rolls-This)) ∙ ap (λ (f : Option Loc → P.Expr). f loc) (roll_expr_node ExprNode-F.This)

pub expr_null_literal : (loc : Option Loc) → plain_expr_node expr_node.NullLiteral loc ≡ P.NullLiteral loc
expr_null_literal loc = ap (λ (x : ExprNode). plain_expr_node x loc) (sym (expr_node.rolls-NullLiteral)) ∙ ap (λ (f : Option Loc → P.Expr). f loc) (roll_expr_node ExprNode-F.NullLiteral)

pub expr_boolean_literal : (value : Bool) (loc : Option Loc) → plain_expr_node (expr_node.BooleanLiteral value) loc ≡ P.BooleanLiteral loc value
expr_boolean_literal value loc = ap (λ (x : ExprNode). plain_expr_node x loc) (sym (expr_node.rolls-BooleanLiteral value)) ∙ ap (λ (f : Option Loc → P.Expr). f loc) (roll_expr_node (ExprNode-F.BooleanLiteral value))

pub expr_numeric_literal : (spelling : List ℕ) (loc : Option Loc) → plain_expr_node (expr_node.NumericLiteral spelling) loc ≡ P.NumericLiteral loc spelling
expr_numeric_literal spelling loc = ap (λ (x : ExprNode). plain_expr_node x loc) (sym (expr_node.rolls-NumericLiteral spelling)) ∙ ap (λ (f : Option Loc → P.Expr). f loc) (roll_expr_node (ExprNode-F.NumericLiteral spelling))

pub expr_string_literal : (string : Spelled) (loc : Option Loc) → plain_expr_node (expr_node.StringLiteral string) loc ≡ P.StringLiteral loc string
expr_string_literal string loc = ap (λ (x : ExprNode). plain_expr_node x loc) (sym (expr_node.rolls-StringLiteral string)) ∙ ap (λ (f : Option Loc → P.Expr). f loc) (roll_expr_node (ExprNode-F.StringLiteral string))

pub expr_array_literal : (items : List Expr) (loc : Option Loc) → plain_expr_node (expr_node.ArrayLiteral items) loc ≡ P.ArrayLiteral loc (plain_exprs items)
expr_array_literal items loc = ap (λ (x : ExprNode). plain_expr_node x loc) (sym (expr_node.rolls-ArrayLiteral items)) ∙ (ap (λ (f : Option Loc → P.Expr). f loc) (roll_expr_node (ExprNode-F.ArrayLiteral items)) ∙ simp (exprs_same))

pub expr_object_literal : (properties : List Property) (loc : Option Loc) → plain_expr_node (expr_node.ObjectLiteral properties) loc ≡ P.ObjectLiteral loc (plain_properties properties)
expr_object_literal properties loc = ap (λ (x : ExprNode). plain_expr_node x loc) (sym (expr_node.rolls-ObjectLiteral properties)) ∙ (ap (λ (f : Option Loc → P.Expr). f loc) (roll_expr_node (ExprNode-F.ObjectLiteral properties)) ∙ simp (properties_same))

pub expr_function_expression : (name : Option Identifier) (function : Function) (loc : Option Loc) → plain_expr_node (expr_node.FunctionExpression name function) loc ≡ P.FunctionExpression loc name (plain_function function)
expr_function_expression name function loc = ap (λ (x : ExprNode). plain_expr_node x loc) (sym (expr_node.rolls-FunctionExpression name function)) ∙ ap (λ (f : Option Loc → P.Expr). f loc) (roll_expr_node (ExprNode-F.FunctionExpression name function))

pub expr_arrow_function : (params : List Param) (body : ConciseBody) (loc : Option Loc) → plain_expr_node (expr_node.ArrowFunction params body) loc ≡ P.ArrowFunction loc 0 (plain_params params) (plain_concise_body body)
expr_arrow_function params body loc = ap (λ (x : ExprNode). plain_expr_node x loc) (sym (expr_node.rolls-ArrowFunction params body)) ∙ (ap (λ (f : Option Loc → P.Expr). f loc) (roll_expr_node (ExprNode-F.ArrowFunction params body)) ∙ simp (params_same))

pub expr_regular_expression_literal : (body : List ℕ) (flags : List ℕ) (loc : Option Loc) → plain_expr_node (expr_node.RegularExpressionLiteral body flags) loc ≡ P.RegularExpressionLiteral loc body flags
expr_regular_expression_literal body flags loc = ap (λ (x : ExprNode). plain_expr_node x loc) (sym (expr_node.rolls-RegularExpressionLiteral body flags)) ∙ ap (λ (f : Option Loc → P.Expr). f loc) (roll_expr_node (ExprNode-F.RegularExpressionLiteral body flags))

pub expr_template_literal : (head : Spelled) (parts : List TemplatePart) (loc : Option Loc) → plain_expr_node (expr_node.TemplateLiteral head parts) loc ≡ P.TemplateLiteral loc head (plain_template_parts parts)
expr_template_literal head parts loc = ap (λ (x : ExprNode). plain_expr_node x loc) (sym (expr_node.rolls-TemplateLiteral head parts)) ∙ (ap (λ (f : Option Loc → P.Expr). f loc) (roll_expr_node (ExprNode-F.TemplateLiteral head parts)) ∙ simp (template_parts_same))

pub expr_parenthesized : (inner : Expr) (loc : Option Loc) → plain_expr_node (expr_node.Parenthesized inner) loc ≡ P.Parenthesized loc (plain_expr inner)
expr_parenthesized inner loc = ap (λ (x : ExprNode). plain_expr_node x loc) (sym (expr_node.rolls-Parenthesized inner)) ∙ ap (λ (f : Option Loc → P.Expr). f loc) (roll_expr_node (ExprNode-F.Parenthesized inner))

pub expr_named_member : (object : Expr) (name : List ℕ) (loc : Option Loc) → plain_expr_node (expr_node.NamedMember object name) loc ≡ P.NamedMember loc (plain_expr object) name
expr_named_member object name loc = ap (λ (x : ExprNode). plain_expr_node x loc) (sym (expr_node.rolls-NamedMember object name)) ∙ ap (λ (f : Option Loc → P.Expr). f loc) (roll_expr_node (ExprNode-F.NamedMember object name))

pub expr_computed_member : (object : Expr) (key : Expr) (loc : Option Loc) → plain_expr_node (expr_node.ComputedMember object key) loc ≡ P.ComputedMember loc (plain_expr object) (plain_expr key)
expr_computed_member object key loc = ap (λ (x : ExprNode). plain_expr_node x loc) (sym (expr_node.rolls-ComputedMember object key)) ∙ ap (λ (f : Option Loc → P.Expr). f loc) (roll_expr_node (ExprNode-F.ComputedMember object key))

pub expr_new : (constructor : Expr) (arguments : List Expr) (loc : Option Loc) → plain_expr_node (expr_node.New constructor arguments) loc ≡ P.New loc (plain_expr constructor) (plain_exprs arguments)
expr_new constructor arguments loc = ap (λ (x : ExprNode). plain_expr_node x loc) (sym (expr_node.rolls-New constructor arguments)) ∙ (ap (λ (f : Option Loc → P.Expr). f loc) (roll_expr_node (ExprNode-F.New constructor arguments)) ∙ simp (exprs_same))

pub expr_call : (callee : Expr) (arguments : List Expr) (loc : Option Loc) → plain_expr_node (expr_node.Call callee arguments) loc ≡ P.Call loc (plain_expr callee) (plain_exprs arguments)
expr_call callee arguments loc = ap (λ (x : ExprNode). plain_expr_node x loc) (sym (expr_node.rolls-Call callee arguments)) ∙ (ap (λ (f : Option Loc → P.Expr). f loc) (roll_expr_node (ExprNode-F.Call callee arguments)) ∙ simp (exprs_same))

pub expr_postfix_update : (operator : UpdateOperator) (operand : Expr) (loc : Option Loc) → plain_expr_node (expr_node.PostfixUpdate operator operand) loc ≡ P.PostfixUpdate loc operator (plain_expr operand)
expr_postfix_update operator operand loc = ap (λ (x : ExprNode). plain_expr_node x loc) (sym (expr_node.rolls-PostfixUpdate operator operand)) ∙ ap (λ (f : Option Loc → P.Expr). f loc) (roll_expr_node (ExprNode-F.PostfixUpdate operator operand))

pub expr_prefix_update : (operator : UpdateOperator) (operand : Expr) (loc : Option Loc) → plain_expr_node (expr_node.PrefixUpdate operator operand) loc ≡ P.PrefixUpdate loc operator (plain_expr operand)
expr_prefix_update operator operand loc = ap (λ (x : ExprNode). plain_expr_node x loc) (sym (expr_node.rolls-PrefixUpdate operator operand)) ∙ ap (λ (f : Option Loc → P.Expr). f loc) (roll_expr_node (ExprNode-F.PrefixUpdate operator operand))

pub expr_unary : (operator : UnaryOperator) (operand : Expr) (loc : Option Loc) → plain_expr_node (expr_node.Unary operator operand) loc ≡ P.Unary loc operator (plain_expr operand)
expr_unary operator operand loc = ap (λ (x : ExprNode). plain_expr_node x loc) (sym (expr_node.rolls-Unary operator operand)) ∙ ap (λ (f : Option Loc → P.Expr). f loc) (roll_expr_node (ExprNode-F.Unary operator operand))

pub expr_binary : (operator : BinaryOperator) (left : Expr) (right : Expr) (loc : Option Loc) → plain_expr_node (expr_node.Binary operator left right) loc ≡ P.Binary loc operator (plain_expr left) (plain_expr right)
expr_binary operator left right loc = ap (λ (x : ExprNode). plain_expr_node x loc) (sym (expr_node.rolls-Binary operator left right)) ∙ ap (λ (f : Option Loc → P.Expr). f loc) (roll_expr_node (ExprNode-F.Binary operator left right))

pub expr_logical : (operator : LogicalOperator) (left : Expr) (right : Expr) (loc : Option Loc) → plain_expr_node (expr_node.Logical operator left right) loc ≡ P.Logical loc operator (plain_expr left) (plain_expr right)
expr_logical operator left right loc = ap (λ (x : ExprNode). plain_expr_node x loc) (sym (expr_node.rolls-Logical operator left right)) ∙ ap (λ (f : Option Loc → P.Expr). f loc) (roll_expr_node (ExprNode-F.Logical operator left right))

pub expr_conditional : (test : Expr) (then : Expr) (otherwise : Expr) (loc : Option Loc) → plain_expr_node (expr_node.Conditional test then otherwise) loc ≡ P.Conditional loc (plain_expr test) (plain_expr then) (plain_expr otherwise)
expr_conditional test then otherwise loc = ap (λ (x : ExprNode). plain_expr_node x loc) (sym (expr_node.rolls-Conditional test then otherwise)) ∙ ap (λ (f : Option Loc → P.Expr). f loc) (roll_expr_node (ExprNode-F.Conditional test then otherwise))

pub expr_assignment : (operator : AssignmentOperator) (target : Expr) (value : Expr) (loc : Option Loc) → plain_expr_node (expr_node.Assignment operator target value) loc ≡ P.Assignment loc operator (plain_expr target) (plain_expr value)
expr_assignment operator target value loc = ap (λ (x : ExprNode). plain_expr_node x loc) (sym (expr_node.rolls-Assignment operator target value)) ∙ ap (λ (f : Option Loc → P.Expr). f loc) (roll_expr_node (ExprNode-F.Assignment operator target value))

pub expr_comma : (left : Expr) (right : Expr) (loc : Option Loc) → plain_expr_node (expr_node.Comma left right) loc ≡ P.Comma loc (plain_expr left) (plain_expr right)
expr_comma left right loc = ap (λ (x : ExprNode). plain_expr_node x loc) (sym (expr_node.rolls-Comma left right)) ∙ ap (λ (f : Option Loc → P.Expr). f loc) (roll_expr_node (ExprNode-F.Comma left right))

pub stmt_directive : (string : Spelled) (loc : Option Loc) → plain_stmt_node (stmt_node.Directive string) loc ≡ P.Directive loc string
stmt_directive string loc = ap (λ (x : StmtNode). plain_stmt_node x loc) (sym (stmt_node.rolls-Directive string)) ∙ ap (λ (f : Option Loc → P.Stmt). f loc) (roll_stmt_node (StmtNode-F.Directive string))

pub stmt_block : (statements : List Stmt) (loc : Option Loc) → plain_stmt_node (stmt_node.Block statements) loc ≡ P.Block loc (plain_stmts statements)
stmt_block statements loc = ap (λ (x : StmtNode). plain_stmt_node x loc) (sym (stmt_node.rolls-Block statements)) ∙ (ap (λ (f : Option Loc → P.Stmt). f loc) (roll_stmt_node (StmtNode-F.Block statements)) ∙ simp (stmts_same))

pub stmt_variable_declaration : (kind : VariableKind) (declarators : List Declarator) (loc : Option Loc) → plain_stmt_node (stmt_node.VariableDeclaration kind declarators) loc ≡ P.VariableDeclaration loc kind (plain_declarators declarators)
stmt_variable_declaration kind declarators loc = ap (λ (x : StmtNode). plain_stmt_node x loc) (sym (stmt_node.rolls-VariableDeclaration kind declarators)) ∙ (ap (λ (f : Option Loc → P.Stmt). f loc) (roll_stmt_node (StmtNode-F.VariableDeclaration kind declarators)) ∙ simp (declarators_same))

pub stmt_empty : (loc : Option Loc) → plain_stmt_node stmt_node.Empty loc ≡ P.Empty loc
stmt_empty loc = ap (λ (x : StmtNode). plain_stmt_node x loc) (sym (stmt_node.rolls-Empty)) ∙ ap (λ (f : Option Loc → P.Stmt). f loc) (roll_stmt_node StmtNode-F.Empty)

pub stmt_expression : (expression : Expr) (loc : Option Loc) → plain_stmt_node (stmt_node.Expression expression) loc ≡ P.Expression loc (plain_expr expression)
stmt_expression expression loc = ap (λ (x : StmtNode). plain_stmt_node x loc) (sym (stmt_node.rolls-Expression expression)) ∙ ap (λ (f : Option Loc → P.Stmt). f loc) (roll_stmt_node (StmtNode-F.Expression expression))

pub stmt_if : (test : Expr) (then : Stmt) (otherwise : Option Stmt) (loc : Option Loc) → plain_stmt_node (stmt_node.If test then otherwise) loc ≡ P.If loc (plain_expr test) (plain_stmt then) (plain_stmt_if otherwise)
unfolding plain_stmt_if
stmt_if test then None loc = ap (λ (x : StmtNode). plain_stmt_node x loc) (sym (stmt_node.rolls-If test then None)) ∙ ap (λ (f : Option Loc → P.Stmt). f loc) (roll_stmt_node (StmtNode-F.If test then None))
stmt_if test then (Some otherwise) loc = ap (λ (x : StmtNode). plain_stmt_node x loc) (sym (stmt_node.rolls-If test then (Some otherwise))) ∙ ap (λ (f : Option Loc → P.Stmt). f loc) (roll_stmt_node (StmtNode-F.If test then (Some otherwise)))

pub stmt_do_while : (body : Stmt) (test : Expr) (loc : Option Loc) → plain_stmt_node (stmt_node.DoWhile body test) loc ≡ P.DoWhile loc (plain_stmt body) (plain_expr test)
stmt_do_while body test loc = ap (λ (x : StmtNode). plain_stmt_node x loc) (sym (stmt_node.rolls-DoWhile body test)) ∙ ap (λ (f : Option Loc → P.Stmt). f loc) (roll_stmt_node (StmtNode-F.DoWhile body test))

pub stmt_while : (test : Expr) (body : Stmt) (loc : Option Loc) → plain_stmt_node (stmt_node.While test body) loc ≡ P.While loc (plain_expr test) (plain_stmt body)
stmt_while test body loc = ap (λ (x : StmtNode). plain_stmt_node x loc) (sym (stmt_node.rolls-While test body)) ∙ ap (λ (f : Option Loc → P.Stmt). f loc) (roll_stmt_node (StmtNode-F.While test body))

pub stmt_for : (init : ForInit) (test : Option Expr) (update : Option Expr) (body : Stmt) (loc : Option Loc) → plain_stmt_node (stmt_node.For init test update body) loc ≡ P.For loc (plain_for_init init) (plain_expr_if test) (plain_expr_if update) (plain_stmt body)
unfolding plain_expr_if
stmt_for init None None body loc = ap (λ (x : StmtNode). plain_stmt_node x loc) (sym (stmt_node.rolls-For init None None body)) ∙ ap (λ (f : Option Loc → P.Stmt). f loc) (roll_stmt_node (StmtNode-F.For init None None body))
stmt_for init None (Some update) body loc = ap (λ (x : StmtNode). plain_stmt_node x loc) (sym (stmt_node.rolls-For init None (Some update) body)) ∙ ap (λ (f : Option Loc → P.Stmt). f loc) (roll_stmt_node (StmtNode-F.For init None (Some update) body))
stmt_for init (Some test) None body loc = ap (λ (x : StmtNode). plain_stmt_node x loc) (sym (stmt_node.rolls-For init (Some test) None body)) ∙ ap (λ (f : Option Loc → P.Stmt). f loc) (roll_stmt_node (StmtNode-F.For init (Some test) None body))
stmt_for init (Some test) (Some update) body loc = ap (λ (x : StmtNode). plain_stmt_node x loc) (sym (stmt_node.rolls-For init (Some test) (Some update) body)) ∙ ap (λ (f : Option Loc → P.Stmt). f loc) (roll_stmt_node (StmtNode-F.For init (Some test) (Some update) body))

pub stmt_for_in : (target : ForTarget) (object : Expr) (body : Stmt) (loc : Option Loc) → plain_stmt_node (stmt_node.ForIn target object body) loc ≡ P.ForIn loc (plain_for_target target) (plain_expr object) (plain_stmt body)
stmt_for_in target object body loc = ap (λ (x : StmtNode). plain_stmt_node x loc) (sym (stmt_node.rolls-ForIn target object body)) ∙ ap (λ (f : Option Loc → P.Stmt). f loc) (roll_stmt_node (StmtNode-F.ForIn target object body))

pub stmt_for_of : (target : ForTarget) (iterable : Expr) (body : Stmt) (loc : Option Loc) → plain_stmt_node (stmt_node.ForOf target iterable body) loc ≡ P.ForOf loc (plain_for_target target) (plain_expr iterable) (plain_stmt body)
stmt_for_of target iterable body loc = ap (λ (x : StmtNode). plain_stmt_node x loc) (sym (stmt_node.rolls-ForOf target iterable body)) ∙ ap (λ (f : Option Loc → P.Stmt). f loc) (roll_stmt_node (StmtNode-F.ForOf target iterable body))

pub stmt_continue : (label : Option Identifier) (loc : Option Loc) → plain_stmt_node (stmt_node.Continue label) loc ≡ P.Continue loc label
stmt_continue label loc = ap (λ (x : StmtNode). plain_stmt_node x loc) (sym (stmt_node.rolls-Continue label)) ∙ ap (λ (f : Option Loc → P.Stmt). f loc) (roll_stmt_node (StmtNode-F.Continue label))

pub stmt_break : (label : Option Identifier) (loc : Option Loc) → plain_stmt_node (stmt_node.Break label) loc ≡ P.Break loc label
stmt_break label loc = ap (λ (x : StmtNode). plain_stmt_node x loc) (sym (stmt_node.rolls-Break label)) ∙ ap (λ (f : Option Loc → P.Stmt). f loc) (roll_stmt_node (StmtNode-F.Break label))

pub stmt_return : (value : Option Expr) (loc : Option Loc) → plain_stmt_node (stmt_node.Return value) loc ≡ P.Return loc (plain_expr_if value)
unfolding plain_expr_if
stmt_return None loc = ap (λ (x : StmtNode). plain_stmt_node x loc) (sym (stmt_node.rolls-Return None)) ∙ ap (λ (f : Option Loc → P.Stmt). f loc) (roll_stmt_node (StmtNode-F.Return None))
stmt_return (Some value) loc = ap (λ (x : StmtNode). plain_stmt_node x loc) (sym (stmt_node.rolls-Return (Some value))) ∙ ap (λ (f : Option Loc → P.Stmt). f loc) (roll_stmt_node (StmtNode-F.Return (Some value)))

pub stmt_switch : (value : Expr) (cases : List Case) (loc : Option Loc) → plain_stmt_node (stmt_node.Switch value cases) loc ≡ P.Switch loc (plain_expr value) (plain_cases cases)
stmt_switch value cases loc = ap (λ (x : StmtNode). plain_stmt_node x loc) (sym (stmt_node.rolls-Switch value cases)) ∙ (ap (λ (f : Option Loc → P.Stmt). f loc) (roll_stmt_node (StmtNode-F.Switch value cases)) ∙ simp (cases_same))

pub stmt_labelled : (label : Identifier) (body : Stmt) (loc : Option Loc) → plain_stmt_node (stmt_node.Labelled label body) loc ≡ P.Labelled loc label (plain_stmt body)
stmt_labelled label body loc = ap (λ (x : StmtNode). plain_stmt_node x loc) (sym (stmt_node.rolls-Labelled label body)) ∙ ap (λ (f : Option Loc → P.Stmt). f loc) (roll_stmt_node (StmtNode-F.Labelled label body))

pub stmt_throw : (value : Expr) (loc : Option Loc) → plain_stmt_node (stmt_node.Throw value) loc ≡ P.Throw loc (plain_expr value)
stmt_throw value loc = ap (λ (x : StmtNode). plain_stmt_node x loc) (sym (stmt_node.rolls-Throw value)) ∙ ap (λ (f : Option Loc → P.Stmt). f loc) (roll_stmt_node (StmtNode-F.Throw value))

pub stmt_try_catch : (block : List Stmt) (catch : Catch) (loc : Option Loc) → plain_stmt_node (stmt_node.TryCatch block catch) loc ≡ P.TryCatch loc (plain_stmts block) (plain_catch catch)
stmt_try_catch block catch loc = ap (λ (x : StmtNode). plain_stmt_node x loc) (sym (stmt_node.rolls-TryCatch block catch)) ∙ (ap (λ (f : Option Loc → P.Stmt). f loc) (roll_stmt_node (StmtNode-F.TryCatch block catch)) ∙ simp (stmts_same))

pub stmt_try_finally : (block : List Stmt) (finally : List Stmt) (loc : Option Loc) → plain_stmt_node (stmt_node.TryFinally block finally) loc ≡ P.TryFinally loc (plain_stmts block) (plain_stmts finally)
stmt_try_finally block finally loc = ap (λ (x : StmtNode). plain_stmt_node x loc) (sym (stmt_node.rolls-TryFinally block finally)) ∙ (ap (λ (f : Option Loc → P.Stmt). f loc) (roll_stmt_node (StmtNode-F.TryFinally block finally)) ∙ simp (stmts_same))

pub stmt_try_catch_finally : (block : List Stmt) (catch : Catch) (finally : List Stmt) (loc : Option Loc) → plain_stmt_node (stmt_node.TryCatchFinally block catch finally) loc ≡ P.TryCatchFinally loc (plain_stmts block) (plain_catch catch) (plain_stmts finally)
stmt_try_catch_finally block catch finally loc = ap (λ (x : StmtNode). plain_stmt_node x loc) (sym (stmt_node.rolls-TryCatchFinally block catch finally)) ∙ (ap (λ (f : Option Loc → P.Stmt). f loc) (roll_stmt_node (StmtNode-F.TryCatchFinally block catch finally)) ∙ simp (stmts_same))

pub stmt_debugger : (loc : Option Loc) → plain_stmt_node stmt_node.Debugger loc ≡ P.Debugger loc
stmt_debugger loc = ap (λ (x : StmtNode). plain_stmt_node x loc) (sym (stmt_node.rolls-Debugger)) ∙ ap (λ (f : Option Loc → P.Stmt). f loc) (roll_stmt_node StmtNode-F.Debugger)

pub stmt_function_declaration : (name : Identifier) (function : Function) (loc : Option Loc) → plain_stmt_node (stmt_node.FunctionDeclaration name function) loc ≡ P.FunctionDeclaration loc name (plain_function function)
stmt_function_declaration name function loc = ap (λ (x : StmtNode). plain_stmt_node x loc) (sym (stmt_node.rolls-FunctionDeclaration name function)) ∙ ap (λ (f : Option Loc → P.Stmt). f loc) (roll_stmt_node (StmtNode-F.FunctionDeclaration name function))

pub property_shorthand : (name : List ℕ) (loc : Option Loc) → plain_property_node (property_node.Shorthand name) loc ≡ P.Shorthand loc name
property_shorthand name loc = ap (λ (x : PropertyNode). plain_property_node x loc) (sym (property_node.rolls-Shorthand name)) ∙ ap (λ (f : Option Loc → P.Property). f loc) (roll_property_node (PropertyNode-F.Shorthand name))

pub property_key_value : (key : PropertyKey) (value : Expr) (loc : Option Loc) → plain_property_node (property_node.KeyValue key value) loc ≡ P.KeyValue loc (plain_property_key key) (plain_expr value)
property_key_value key value loc = ap (λ (x : PropertyNode). plain_property_node x loc) (sym (property_node.rolls-KeyValue key value)) ∙ ap (λ (f : Option Loc → P.Property). f loc) (roll_property_node (PropertyNode-F.KeyValue key value))

pub property_method : (key : PropertyKey) (function : Function) (loc : Option Loc) → plain_property_node (property_node.Method key function) loc ≡ P.Method loc (plain_property_key key) (plain_function function)
property_method key function loc = ap (λ (x : PropertyNode). plain_property_node x loc) (sym (property_node.rolls-Method key function)) ∙ ap (λ (f : Option Loc → P.Property). f loc) (roll_property_node (PropertyNode-F.Method key function))

pub property_key_name_key : (name : List ℕ) → plain_property_key (property_key.NameKey name) ≡ P.NameKey name
property_key_name_key name = ap plain_property_key (sym (property_key.rolls-NameKey name)) ∙ (roll_property_key (PropertyKey-F.NameKey name))

pub property_key_string_key : (string : Spelled) → plain_property_key (property_key.StringKey string) ≡ P.StringKey string
property_key_string_key string = ap plain_property_key (sym (property_key.rolls-StringKey string)) ∙ (roll_property_key (PropertyKey-F.StringKey string))

pub property_key_number_key : (spelling : List ℕ) → plain_property_key (property_key.NumberKey spelling) ≡ P.NumberKey spelling
property_key_number_key spelling = ap plain_property_key (sym (property_key.rolls-NumberKey spelling)) ∙ (roll_property_key (PropertyKey-F.NumberKey spelling))

pub property_key_computed_key : (key : Expr) → plain_property_key (property_key.ComputedKey key) ≡ P.ComputedKey (plain_expr key)
property_key_computed_key key = ap plain_property_key (sym (property_key.rolls-ComputedKey key)) ∙ (roll_property_key (PropertyKey-F.ComputedKey key))

pub concise_body_expression_body : (value : Expr) → plain_concise_body (concise_body.ExpressionBody value) ≡ P.ExpressionBody (plain_expr value)
concise_body_expression_body value = ap plain_concise_body (sym (concise_body.rolls-ExpressionBody value)) ∙ (roll_concise_body (ConciseBody-F.ExpressionBody value))

pub concise_body_block_body : (body : FunctionBody) → plain_concise_body (concise_body.BlockBody body) ≡ P.BlockBody (plain_function_body body)
concise_body_block_body body = ap plain_concise_body (sym (concise_body.rolls-BlockBody body)) ∙ (roll_concise_body (ConciseBody-F.BlockBody body))

pub for_init_no_init : plain_for_init for_init.NoInit ≡ P.NoInit
for_init_no_init = ap plain_for_init (sym (for_init.rolls-NoInit)) ∙ (roll_for_init ForInit-F.NoInit)

pub for_init_init_declaration : (kind : VariableKind) (declarators : List Declarator) → plain_for_init (for_init.InitDeclaration kind declarators) ≡ P.InitDeclaration kind (plain_declarators declarators)
for_init_init_declaration kind declarators = ap plain_for_init (sym (for_init.rolls-InitDeclaration kind declarators)) ∙ (roll_for_init (ForInit-F.InitDeclaration kind declarators) ∙ simp (declarators_same))

pub for_init_init_expression : (expression : Expr) → plain_for_init (for_init.InitExpression expression) ≡ P.InitExpression (plain_expr expression)
for_init_init_expression expression = ap plain_for_init (sym (for_init.rolls-InitExpression expression)) ∙ (roll_for_init (ForInit-F.InitExpression expression))

pub for_target_target_declaration : (kind : VariableKind) (pattern : Pattern) → plain_for_target (for_target.TargetDeclaration kind pattern) ≡ P.TargetDeclaration kind (plain_pattern pattern)
for_target_target_declaration kind pattern = ap plain_for_target (sym (for_target.rolls-TargetDeclaration kind pattern)) ∙ (roll_for_target (ForTarget-F.TargetDeclaration kind pattern))

pub for_target_target_expression : (target : Expr) → plain_for_target (for_target.TargetExpression target) ≡ P.TargetExpression (plain_expr target)
for_target_target_expression target = ap plain_for_target (sym (for_target.rolls-TargetExpression target)) ∙ (roll_for_target (ForTarget-F.TargetExpression target))

case_layer_at : (y : Case-F ConciseBody ExprNode ForInit ForTarget PropertyKey PropertyNode StmtNode Case Catch Declarator Expr Function FunctionBody Param Property Stmt TemplatePart) (d : Option Expr) → case_step (map-Case ConciseBody ExprNode ForInit ForTarget PropertyKey PropertyNode StmtNode Case Catch Declarator Expr Function FunctionBody Param Property Stmt TemplatePart P.ConciseBody (Option Loc → P.Expr) P.ForInit P.ForTarget P.PropertyKey (Option Loc → P.Property) (Option Loc → P.Stmt) P.Case P.Catch P.Declarator P.Expr P.Function P.FunctionBody P.Param P.Property P.Stmt P.TemplatePart plain_concise_body plain_expr_node plain_for_init plain_for_target plain_property_key plain_property_node plain_stmt_node plain_case plain_catch plain_declarator plain_expr plain_function plain_function_body plain_param plain_property plain_stmt plain_template_part (record y { test = d })) ≡ P.MakeCase y.loc (plain_expr_if d) (plain_stmts y.statements)
unfolding plain_expr_if
case_layer_at y None = simp (stmts_same)
case_layer_at y (Some d) = simp (stmts_same)

case_layer : (y : Case-F ConciseBody ExprNode ForInit ForTarget PropertyKey PropertyNode StmtNode Case Catch Declarator Expr Function FunctionBody Param Property Stmt TemplatePart) → case_step (map-Case ConciseBody ExprNode ForInit ForTarget PropertyKey PropertyNode StmtNode Case Catch Declarator Expr Function FunctionBody Param Property Stmt TemplatePart P.ConciseBody (Option Loc → P.Expr) P.ForInit P.ForTarget P.PropertyKey (Option Loc → P.Property) (Option Loc → P.Stmt) P.Case P.Catch P.Declarator P.Expr P.Function P.FunctionBody P.Param P.Property P.Stmt P.TemplatePart plain_concise_body plain_expr_node plain_for_init plain_for_target plain_property_key plain_property_node plain_stmt_node plain_case plain_catch plain_declarator plain_expr plain_function plain_function_body plain_param plain_property plain_stmt plain_template_part y) ≡ P.MakeCase y.loc (plain_expr_if y.test) (plain_stmts y.statements)
case_layer y = case_layer_at y y.test

pub case_rolled : (y : Case-F ConciseBody ExprNode ForInit ForTarget PropertyKey PropertyNode StmtNode Case Catch Declarator Expr Function FunctionBody Param Property Stmt TemplatePart) → plain_case (roll-Case y) ≡ P.MakeCase y.loc (plain_expr_if y.test) (plain_stmts y.statements)
case_rolled y = roll_case y ∙ case_layer y

pub case_made : (x : Case) → plain_case x ≡ P.MakeCase (out-Case x).loc (plain_expr_if (out-Case x).test) (plain_stmts (out-Case x).statements)
case_made x = ap plain_case (sym (roll-out-Case x)) ∙ case_rolled (out-Case x)

catch_layer : (y : Catch-F ConciseBody ExprNode ForInit ForTarget PropertyKey PropertyNode StmtNode Case Catch Declarator Expr Function FunctionBody Param Property Stmt TemplatePart) → catch_step (map-Catch ConciseBody ExprNode ForInit ForTarget PropertyKey PropertyNode StmtNode Case Catch Declarator Expr Function FunctionBody Param Property Stmt TemplatePart P.ConciseBody (Option Loc → P.Expr) P.ForInit P.ForTarget P.PropertyKey (Option Loc → P.Property) (Option Loc → P.Stmt) P.Case P.Catch P.Declarator P.Expr P.Function P.FunctionBody P.Param P.Property P.Stmt P.TemplatePart plain_concise_body plain_expr_node plain_for_init plain_for_target plain_property_key plain_property_node plain_stmt_node plain_case plain_catch plain_declarator plain_expr plain_function plain_function_body plain_param plain_property plain_stmt plain_template_part y) ≡ P.MakeCatch (plain_pattern_if y.parameter) (plain_stmts y.statements)
catch_layer y = simp (stmts_same)

pub catch_rolled : (y : Catch-F ConciseBody ExprNode ForInit ForTarget PropertyKey PropertyNode StmtNode Case Catch Declarator Expr Function FunctionBody Param Property Stmt TemplatePart) → plain_catch (roll-Catch y) ≡ P.MakeCatch (plain_pattern_if y.parameter) (plain_stmts y.statements)
catch_rolled y = roll_catch y ∙ catch_layer y

pub catch_made : (x : Catch) → plain_catch x ≡ P.MakeCatch (plain_pattern_if (out-Catch x).parameter) (plain_stmts (out-Catch x).statements)
catch_made x = ap plain_catch (sym (roll-out-Catch x)) ∙ catch_rolled (out-Catch x)

declarator_layer_at : (y : Declarator-F ConciseBody ExprNode ForInit ForTarget PropertyKey PropertyNode StmtNode Case Catch Declarator Expr Function FunctionBody Param Property Stmt TemplatePart) (d : Option Expr) → declarator_step (map-Declarator ConciseBody ExprNode ForInit ForTarget PropertyKey PropertyNode StmtNode Case Catch Declarator Expr Function FunctionBody Param Property Stmt TemplatePart P.ConciseBody (Option Loc → P.Expr) P.ForInit P.ForTarget P.PropertyKey (Option Loc → P.Property) (Option Loc → P.Stmt) P.Case P.Catch P.Declarator P.Expr P.Function P.FunctionBody P.Param P.Property P.Stmt P.TemplatePart plain_concise_body plain_expr_node plain_for_init plain_for_target plain_property_key plain_property_node plain_stmt_node plain_case plain_catch plain_declarator plain_expr plain_function plain_function_body plain_param plain_property plain_stmt plain_template_part (record y { initializer = d })) ≡ P.MakeDeclarator y.loc (plain_pattern y.pattern) (plain_expr_if d)
unfolding plain_expr_if
declarator_layer_at y None = refl
declarator_layer_at y (Some d) = refl

declarator_layer : (y : Declarator-F ConciseBody ExprNode ForInit ForTarget PropertyKey PropertyNode StmtNode Case Catch Declarator Expr Function FunctionBody Param Property Stmt TemplatePart) → declarator_step (map-Declarator ConciseBody ExprNode ForInit ForTarget PropertyKey PropertyNode StmtNode Case Catch Declarator Expr Function FunctionBody Param Property Stmt TemplatePart P.ConciseBody (Option Loc → P.Expr) P.ForInit P.ForTarget P.PropertyKey (Option Loc → P.Property) (Option Loc → P.Stmt) P.Case P.Catch P.Declarator P.Expr P.Function P.FunctionBody P.Param P.Property P.Stmt P.TemplatePart plain_concise_body plain_expr_node plain_for_init plain_for_target plain_property_key plain_property_node plain_stmt_node plain_case plain_catch plain_declarator plain_expr plain_function plain_function_body plain_param plain_property plain_stmt plain_template_part y) ≡ P.MakeDeclarator y.loc (plain_pattern y.pattern) (plain_expr_if y.initializer)
declarator_layer y = declarator_layer_at y y.initializer

pub declarator_rolled : (y : Declarator-F ConciseBody ExprNode ForInit ForTarget PropertyKey PropertyNode StmtNode Case Catch Declarator Expr Function FunctionBody Param Property Stmt TemplatePart) → plain_declarator (roll-Declarator y) ≡ P.MakeDeclarator y.loc (plain_pattern y.pattern) (plain_expr_if y.initializer)
declarator_rolled y = roll_declarator y ∙ declarator_layer y

pub declarator_made : (x : Declarator) → plain_declarator x ≡ P.MakeDeclarator (out-Declarator x).loc (plain_pattern (out-Declarator x).pattern) (plain_expr_if (out-Declarator x).initializer)
declarator_made x = ap plain_declarator (sym (roll-out-Declarator x)) ∙ declarator_rolled (out-Declarator x)

expr_layer : (y : Expr-F ConciseBody ExprNode ForInit ForTarget PropertyKey PropertyNode StmtNode Case Catch Declarator Expr Function FunctionBody Param Property Stmt TemplatePart) → expr_step (map-Expr ConciseBody ExprNode ForInit ForTarget PropertyKey PropertyNode StmtNode Case Catch Declarator Expr Function FunctionBody Param Property Stmt TemplatePart P.ConciseBody (Option Loc → P.Expr) P.ForInit P.ForTarget P.PropertyKey (Option Loc → P.Property) (Option Loc → P.Stmt) P.Case P.Catch P.Declarator P.Expr P.Function P.FunctionBody P.Param P.Property P.Stmt P.TemplatePart plain_concise_body plain_expr_node plain_for_init plain_for_target plain_property_key plain_property_node plain_stmt_node plain_case plain_catch plain_declarator plain_expr plain_function plain_function_body plain_param plain_property plain_stmt plain_template_part y) ≡ plain_expr_node y.node y.loc
expr_layer y = refl

pub expr_rolled : (y : Expr-F ConciseBody ExprNode ForInit ForTarget PropertyKey PropertyNode StmtNode Case Catch Declarator Expr Function FunctionBody Param Property Stmt TemplatePart) → plain_expr (roll-Expr y) ≡ plain_expr_node y.node y.loc
expr_rolled y = roll_expr y ∙ expr_layer y

pub expr_made : (x : Expr) → plain_expr x ≡ plain_expr_node (out-Expr x).node (out-Expr x).loc
expr_made x = ap plain_expr (sym (roll-out-Expr x)) ∙ expr_rolled (out-Expr x)

function_layer : (y : Function-F ConciseBody ExprNode ForInit ForTarget PropertyKey PropertyNode StmtNode Case Catch Declarator Expr Function FunctionBody Param Property Stmt TemplatePart) → function_step (map-Function ConciseBody ExprNode ForInit ForTarget PropertyKey PropertyNode StmtNode Case Catch Declarator Expr Function FunctionBody Param Property Stmt TemplatePart P.ConciseBody (Option Loc → P.Expr) P.ForInit P.ForTarget P.PropertyKey (Option Loc → P.Property) (Option Loc → P.Stmt) P.Case P.Catch P.Declarator P.Expr P.Function P.FunctionBody P.Param P.Property P.Stmt P.TemplatePart plain_concise_body plain_expr_node plain_for_init plain_for_target plain_property_key plain_property_node plain_stmt_node plain_case plain_catch plain_declarator plain_expr plain_function plain_function_body plain_param plain_property plain_stmt plain_template_part y) ≡ P.MakeFunction 0 (plain_params y.params) (plain_function_body y.body)
function_layer y = simp (params_same)

pub function_rolled : (y : Function-F ConciseBody ExprNode ForInit ForTarget PropertyKey PropertyNode StmtNode Case Catch Declarator Expr Function FunctionBody Param Property Stmt TemplatePart) → plain_function (roll-Function y) ≡ P.MakeFunction 0 (plain_params y.params) (plain_function_body y.body)
function_rolled y = roll_function y ∙ function_layer y

pub function_made : (x : Function) → plain_function x ≡ P.MakeFunction 0 (plain_params (out-Function x).params) (plain_function_body (out-Function x).body)
function_made x = ap plain_function (sym (roll-out-Function x)) ∙ function_rolled (out-Function x)

function_body_layer : (y : FunctionBody-F ConciseBody ExprNode ForInit ForTarget PropertyKey PropertyNode StmtNode Case Catch Declarator Expr Function FunctionBody Param Property Stmt TemplatePart) → function_body_step (map-FunctionBody ConciseBody ExprNode ForInit ForTarget PropertyKey PropertyNode StmtNode Case Catch Declarator Expr Function FunctionBody Param Property Stmt TemplatePart P.ConciseBody (Option Loc → P.Expr) P.ForInit P.ForTarget P.PropertyKey (Option Loc → P.Property) (Option Loc → P.Stmt) P.Case P.Catch P.Declarator P.Expr P.Function P.FunctionBody P.Param P.Property P.Stmt P.TemplatePart plain_concise_body plain_expr_node plain_for_init plain_for_target plain_property_key plain_property_node plain_stmt_node plain_case plain_catch plain_declarator plain_expr plain_function plain_function_body plain_param plain_property plain_stmt plain_template_part y) ≡ P.MakeFunctionBody y.loc (plain_stmts y.statements)
function_body_layer y = simp (stmts_same)

pub function_body_rolled : (y : FunctionBody-F ConciseBody ExprNode ForInit ForTarget PropertyKey PropertyNode StmtNode Case Catch Declarator Expr Function FunctionBody Param Property Stmt TemplatePart) → plain_function_body (roll-FunctionBody y) ≡ P.MakeFunctionBody y.loc (plain_stmts y.statements)
function_body_rolled y = roll_function_body y ∙ function_body_layer y

pub function_body_made : (x : FunctionBody) → plain_function_body x ≡ P.MakeFunctionBody (out-FunctionBody x).loc (plain_stmts (out-FunctionBody x).statements)
function_body_made x = ap plain_function_body (sym (roll-out-FunctionBody x)) ∙ function_body_rolled (out-FunctionBody x)

param_layer_at : (y : Param-F ConciseBody ExprNode ForInit ForTarget PropertyKey PropertyNode StmtNode Case Catch Declarator Expr Function FunctionBody Param Property Stmt TemplatePart) (d : Option Expr) → param_step (map-Param ConciseBody ExprNode ForInit ForTarget PropertyKey PropertyNode StmtNode Case Catch Declarator Expr Function FunctionBody Param Property Stmt TemplatePart P.ConciseBody (Option Loc → P.Expr) P.ForInit P.ForTarget P.PropertyKey (Option Loc → P.Property) (Option Loc → P.Stmt) P.Case P.Catch P.Declarator P.Expr P.Function P.FunctionBody P.Param P.Property P.Stmt P.TemplatePart plain_concise_body plain_expr_node plain_for_init plain_for_target plain_property_key plain_property_node plain_stmt_node plain_case plain_catch plain_declarator plain_expr plain_function plain_function_body plain_param plain_property plain_stmt plain_template_part (record y { default = d })) ≡ P.MakeParam y.loc (plain_pattern y.pattern) (plain_expr_if d)
unfolding plain_expr_if
param_layer_at y None = refl
param_layer_at y (Some d) = refl

param_layer : (y : Param-F ConciseBody ExprNode ForInit ForTarget PropertyKey PropertyNode StmtNode Case Catch Declarator Expr Function FunctionBody Param Property Stmt TemplatePart) → param_step (map-Param ConciseBody ExprNode ForInit ForTarget PropertyKey PropertyNode StmtNode Case Catch Declarator Expr Function FunctionBody Param Property Stmt TemplatePart P.ConciseBody (Option Loc → P.Expr) P.ForInit P.ForTarget P.PropertyKey (Option Loc → P.Property) (Option Loc → P.Stmt) P.Case P.Catch P.Declarator P.Expr P.Function P.FunctionBody P.Param P.Property P.Stmt P.TemplatePart plain_concise_body plain_expr_node plain_for_init plain_for_target plain_property_key plain_property_node plain_stmt_node plain_case plain_catch plain_declarator plain_expr plain_function plain_function_body plain_param plain_property plain_stmt plain_template_part y) ≡ P.MakeParam y.loc (plain_pattern y.pattern) (plain_expr_if y.default)
param_layer y = param_layer_at y y.default

pub param_rolled : (y : Param-F ConciseBody ExprNode ForInit ForTarget PropertyKey PropertyNode StmtNode Case Catch Declarator Expr Function FunctionBody Param Property Stmt TemplatePart) → plain_param (roll-Param y) ≡ P.MakeParam y.loc (plain_pattern y.pattern) (plain_expr_if y.default)
param_rolled y = roll_param y ∙ param_layer y

pub param_made : (x : Param) → plain_param x ≡ P.MakeParam (out-Param x).loc (plain_pattern (out-Param x).pattern) (plain_expr_if (out-Param x).default)
param_made x = ap plain_param (sym (roll-out-Param x)) ∙ param_rolled (out-Param x)

property_layer : (y : Property-F ConciseBody ExprNode ForInit ForTarget PropertyKey PropertyNode StmtNode Case Catch Declarator Expr Function FunctionBody Param Property Stmt TemplatePart) → property_step (map-Property ConciseBody ExprNode ForInit ForTarget PropertyKey PropertyNode StmtNode Case Catch Declarator Expr Function FunctionBody Param Property Stmt TemplatePart P.ConciseBody (Option Loc → P.Expr) P.ForInit P.ForTarget P.PropertyKey (Option Loc → P.Property) (Option Loc → P.Stmt) P.Case P.Catch P.Declarator P.Expr P.Function P.FunctionBody P.Param P.Property P.Stmt P.TemplatePart plain_concise_body plain_expr_node plain_for_init plain_for_target plain_property_key plain_property_node plain_stmt_node plain_case plain_catch plain_declarator plain_expr plain_function plain_function_body plain_param plain_property plain_stmt plain_template_part y) ≡ plain_property_node y.node y.loc
property_layer y = refl

pub property_rolled : (y : Property-F ConciseBody ExprNode ForInit ForTarget PropertyKey PropertyNode StmtNode Case Catch Declarator Expr Function FunctionBody Param Property Stmt TemplatePart) → plain_property (roll-Property y) ≡ plain_property_node y.node y.loc
property_rolled y = roll_property y ∙ property_layer y

pub property_made : (x : Property) → plain_property x ≡ plain_property_node (out-Property x).node (out-Property x).loc
property_made x = ap plain_property (sym (roll-out-Property x)) ∙ property_rolled (out-Property x)

stmt_layer : (y : Stmt-F ConciseBody ExprNode ForInit ForTarget PropertyKey PropertyNode StmtNode Case Catch Declarator Expr Function FunctionBody Param Property Stmt TemplatePart) → stmt_step (map-Stmt ConciseBody ExprNode ForInit ForTarget PropertyKey PropertyNode StmtNode Case Catch Declarator Expr Function FunctionBody Param Property Stmt TemplatePart P.ConciseBody (Option Loc → P.Expr) P.ForInit P.ForTarget P.PropertyKey (Option Loc → P.Property) (Option Loc → P.Stmt) P.Case P.Catch P.Declarator P.Expr P.Function P.FunctionBody P.Param P.Property P.Stmt P.TemplatePart plain_concise_body plain_expr_node plain_for_init plain_for_target plain_property_key plain_property_node plain_stmt_node plain_case plain_catch plain_declarator plain_expr plain_function plain_function_body plain_param plain_property plain_stmt plain_template_part y) ≡ plain_stmt_node y.node y.loc
stmt_layer y = refl

pub stmt_rolled : (y : Stmt-F ConciseBody ExprNode ForInit ForTarget PropertyKey PropertyNode StmtNode Case Catch Declarator Expr Function FunctionBody Param Property Stmt TemplatePart) → plain_stmt (roll-Stmt y) ≡ plain_stmt_node y.node y.loc
stmt_rolled y = roll_stmt y ∙ stmt_layer y

pub stmt_made : (x : Stmt) → plain_stmt x ≡ plain_stmt_node (out-Stmt x).node (out-Stmt x).loc
stmt_made x = ap plain_stmt (sym (roll-out-Stmt x)) ∙ stmt_rolled (out-Stmt x)

template_part_layer : (y : TemplatePart-F ConciseBody ExprNode ForInit ForTarget PropertyKey PropertyNode StmtNode Case Catch Declarator Expr Function FunctionBody Param Property Stmt TemplatePart) → template_part_step (map-TemplatePart ConciseBody ExprNode ForInit ForTarget PropertyKey PropertyNode StmtNode Case Catch Declarator Expr Function FunctionBody Param Property Stmt TemplatePart P.ConciseBody (Option Loc → P.Expr) P.ForInit P.ForTarget P.PropertyKey (Option Loc → P.Property) (Option Loc → P.Stmt) P.Case P.Catch P.Declarator P.Expr P.Function P.FunctionBody P.Param P.Property P.Stmt P.TemplatePart plain_concise_body plain_expr_node plain_for_init plain_for_target plain_property_key plain_property_node plain_stmt_node plain_case plain_catch plain_declarator plain_expr plain_function plain_function_body plain_param plain_property plain_stmt plain_template_part y) ≡ P.MakeTemplatePart (plain_expr y.value) y.text
template_part_layer y = refl

pub template_part_rolled : (y : TemplatePart-F ConciseBody ExprNode ForInit ForTarget PropertyKey PropertyNode StmtNode Case Catch Declarator Expr Function FunctionBody Param Property Stmt TemplatePart) → plain_template_part (roll-TemplatePart y) ≡ P.MakeTemplatePart (plain_expr y.value) y.text
template_part_rolled y = roll_template_part y ∙ template_part_layer y

pub template_part_made : (x : TemplatePart) → plain_template_part x ≡ P.MakeTemplatePart (plain_expr (out-TemplatePart x).value) (out-TemplatePart x).text
template_part_made x = ap plain_template_part (sym (roll-out-TemplatePart x)) ∙ template_part_rolled (out-TemplatePart x)

pub ruleset plain_rules = (template_parts_push, properties_push, params_push, exprs_push, stmts_push, declarators_push, cases_push, expr_if_none, expr_if_some, stmt_if_none, stmt_if_some, pattern_if_none, pattern_if_some, pattern_binding_identifier, expr_identifier_reference, expr_this, expr_null_literal, expr_boolean_literal, expr_numeric_literal, expr_string_literal, expr_array_literal, expr_object_literal, expr_function_expression, expr_arrow_function, expr_regular_expression_literal, expr_template_literal, expr_parenthesized, expr_named_member, expr_computed_member, expr_new, expr_call, expr_postfix_update, expr_prefix_update, expr_unary, expr_binary, expr_logical, expr_conditional, expr_assignment, expr_comma, stmt_directive, stmt_block, stmt_variable_declaration, stmt_empty, stmt_expression, stmt_if, stmt_do_while, stmt_while, stmt_for, stmt_for_in, stmt_for_of, stmt_continue, stmt_break, stmt_return, stmt_switch, stmt_labelled, stmt_throw, stmt_try_catch, stmt_try_finally, stmt_try_catch_finally, stmt_debugger, stmt_function_declaration, property_shorthand, property_key_value, property_method, property_key_name_key, property_key_string_key, property_key_number_key, property_key_computed_key, concise_body_expression_body, concise_body_block_body, for_init_no_init, for_init_init_declaration, for_init_init_expression, for_target_target_declaration, for_target_target_expression, case_rolled, catch_rolled, declarator_rolled, expr_rolled, function_rolled, function_body_rolled, param_rolled, property_rolled, stmt_rolled, template_part_rolled)

pub ruleset tree_rules = (plain_rules, the_lemmas, append_assoc, append-nil, pattern_made, case_made, catch_made, declarator_made, expr_made, function_made, function_body_made, param_made, property_made, stmt_made, template_part_made)
