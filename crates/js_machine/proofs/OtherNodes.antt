-- What a node is read as that is of another kind than its place asks for.
use Rattle.std.proofs.Common.{◌≡◌, [], None, refl}
use Rattle.js_tree.specs.Plain as P
use Rattle.js_tree.specs.Codes.{Ordinary}
use Rattle.js_code.specs.declared.node.Node.{Node}
use Rattle.js_code.specs.declared.node.Node.TheVariants as node
use Rattle.js_code.specs.declared.node.ListKind.{ListKind}
use Rattle.js_code.specs.declared.node.ListKind.TheVariants as list
use Rattle.js_code.specs.Node.{Reader, build}
use Rattle.js_code.specs.Part.{Part, as_expr, as_exprs, as_stmt, as_stmts, as_properties, as_property, as_property_key, as_template_parts, as_template_part, as_params, as_param, as_declarators, as_declarator, as_cases, as_case, as_catch, as_for_init, as_for_target, as_code, as_scope, as_case_scope, as_expr_if, as_stmt_if, before, end_of}
use Rattle.js_machine.proofs.NotThese.{NotIdentifierReference, NotThis, NotNullLiteral, NotBooleanLiteral, NotNumericLiteral, NotStringLiteral, NotArrayLiteral, NotObjectLiteral, NotFunctionExpression, NotArrowFunction, NotRegularExpressionLiteral, NotTemplateLiteral, NotParenthesized, NotNamedMember, NotComputedMember, NotNew, NotCall, NotPostfixUpdate, NotPrefixUpdate, NotUnary, NotBinary, NotLogical, NotConditional, NotAssignment, NotComma, NotShorthand, NotKeyValue, NotMethod, NotNameKey, NotStringKey, NotNumberKey, NotComputedKey, NotTemplatePart, NotFunction, NotArrowExpression, NotArrowBlock, NotParam, NotDeclarator, NotCase, NotCatch, NotCatchName, NotInitDeclaration, NotInitExpression, NotTargetDeclaration, NotTargetExpression, NotScope, NotCaseScope, NotMore, NotMissing}

-- expressions
no_expr_end : (kind : ListKind) → as_expr (end_of kind) ≡ P.NullLiteral None
no_expr_end list.Exprs = refl
no_expr_end list.Stmts = refl
no_expr_end list.Properties = refl
no_expr_end list.TemplateParts = refl
no_expr_end list.Params = refl
no_expr_end list.Declarators = refl
no_expr_end list.Cases = refl

no_expr_more : (kind : ListKind) (x xs : Part) → as_expr (before kind x xs) ≡ P.NullLiteral None
no_expr_more list.Exprs x xs = refl
no_expr_more list.Stmts x xs = refl
no_expr_more list.Properties x xs = refl
no_expr_more list.TemplateParts x xs = refl
no_expr_more list.Params x xs = refl
no_expr_more list.Declarators x xs = refl
no_expr_more list.Cases x xs = refl

pub no_expr : (t : Reader) (n : Node) → NotIdentifierReference n → NotThis n → NotNullLiteral n → NotBooleanLiteral n → NotNumericLiteral n → NotStringLiteral n → NotArrayLiteral n → NotObjectLiteral n → NotFunctionExpression n → NotArrowFunction n → NotRegularExpressionLiteral n → NotTemplateLiteral n → NotParenthesized n → NotNamedMember n → NotComputedMember n → NotNew n → NotCall n → NotPostfixUpdate n → NotPrefixUpdate n → NotUnary n → NotBinary n → NotLogical n → NotConditional n → NotAssignment n → NotComma n → as_expr (build t n) ≡ P.NullLiteral None
no_expr t (node.IdentifierReference loc name) h _ _ _ _ _ _ _ _ _ _ _ _ _ _ _ _ _ _ _ _ _ _ _ _ = absurd (h loc name refl)
no_expr t (node.This loc) _ h _ _ _ _ _ _ _ _ _ _ _ _ _ _ _ _ _ _ _ _ _ _ _ = absurd (h loc refl)
no_expr t (node.NullLiteral loc) _ _ h _ _ _ _ _ _ _ _ _ _ _ _ _ _ _ _ _ _ _ _ _ _ = absurd (h loc refl)
no_expr t (node.BooleanLiteral loc value) _ _ _ h _ _ _ _ _ _ _ _ _ _ _ _ _ _ _ _ _ _ _ _ _ = absurd (h loc value refl)
no_expr t (node.NumericLiteral loc numeral) _ _ _ _ h _ _ _ _ _ _ _ _ _ _ _ _ _ _ _ _ _ _ _ _ = absurd (h loc numeral refl)
no_expr t (node.StringLiteral loc literal) _ _ _ _ _ h _ _ _ _ _ _ _ _ _ _ _ _ _ _ _ _ _ _ _ = absurd (h loc literal refl)
no_expr t (node.ArrayLiteral loc items) _ _ _ _ _ _ h _ _ _ _ _ _ _ _ _ _ _ _ _ _ _ _ _ _ = absurd (h loc items refl)
no_expr t (node.ObjectLiteral loc properties) _ _ _ _ _ _ _ h _ _ _ _ _ _ _ _ _ _ _ _ _ _ _ _ _ = absurd (h loc properties refl)
no_expr t (node.FunctionExpression loc name function) _ _ _ _ _ _ _ _ h _ _ _ _ _ _ _ _ _ _ _ _ _ _ _ _ = absurd (h loc name function refl)
no_expr t (node.ArrowFunction loc function) _ _ _ _ _ _ _ _ _ h _ _ _ _ _ _ _ _ _ _ _ _ _ _ _ = absurd (h loc function refl)
no_expr t (node.RegularExpressionLiteral loc pattern flags) _ _ _ _ _ _ _ _ _ _ h _ _ _ _ _ _ _ _ _ _ _ _ _ _ = absurd (h loc pattern flags refl)
no_expr t (node.TemplateLiteral loc text parts) _ _ _ _ _ _ _ _ _ _ _ h _ _ _ _ _ _ _ _ _ _ _ _ _ = absurd (h loc text parts refl)
no_expr t (node.Parenthesized loc inner) _ _ _ _ _ _ _ _ _ _ _ _ h _ _ _ _ _ _ _ _ _ _ _ _ = absurd (h loc inner refl)
no_expr t (node.NamedMember loc object name) _ _ _ _ _ _ _ _ _ _ _ _ _ h _ _ _ _ _ _ _ _ _ _ _ = absurd (h loc object name refl)
no_expr t (node.ComputedMember loc object key) _ _ _ _ _ _ _ _ _ _ _ _ _ _ h _ _ _ _ _ _ _ _ _ _ = absurd (h loc object key refl)
no_expr t (node.New loc constructor arguments) _ _ _ _ _ _ _ _ _ _ _ _ _ _ _ h _ _ _ _ _ _ _ _ _ = absurd (h loc constructor arguments refl)
no_expr t (node.Call loc callee arguments) _ _ _ _ _ _ _ _ _ _ _ _ _ _ _ _ h _ _ _ _ _ _ _ _ = absurd (h loc callee arguments refl)
no_expr t (node.PostfixUpdate loc operator target) _ _ _ _ _ _ _ _ _ _ _ _ _ _ _ _ _ h _ _ _ _ _ _ _ = absurd (h loc operator target refl)
no_expr t (node.PrefixUpdate loc operator target) _ _ _ _ _ _ _ _ _ _ _ _ _ _ _ _ _ _ h _ _ _ _ _ _ = absurd (h loc operator target refl)
no_expr t (node.Unary loc operator operand) _ _ _ _ _ _ _ _ _ _ _ _ _ _ _ _ _ _ _ h _ _ _ _ _ = absurd (h loc operator operand refl)
no_expr t (node.Binary loc operator left right) _ _ _ _ _ _ _ _ _ _ _ _ _ _ _ _ _ _ _ _ h _ _ _ _ = absurd (h loc operator left right refl)
no_expr t (node.Logical loc operator left right) _ _ _ _ _ _ _ _ _ _ _ _ _ _ _ _ _ _ _ _ _ h _ _ _ = absurd (h loc operator left right refl)
no_expr t (node.Conditional loc test holds fails) _ _ _ _ _ _ _ _ _ _ _ _ _ _ _ _ _ _ _ _ _ _ h _ _ = absurd (h loc test holds fails refl)
no_expr t (node.Assignment loc operator target value) _ _ _ _ _ _ _ _ _ _ _ _ _ _ _ _ _ _ _ _ _ _ _ h _ = absurd (h loc operator target value refl)
no_expr t (node.Comma loc left right) _ _ _ _ _ _ _ _ _ _ _ _ _ _ _ _ _ _ _ _ _ _ _ _ h = absurd (h loc left right refl)
no_expr t (node.End kind) _ _ _ _ _ _ _ _ _ _ _ _ _ _ _ _ _ _ _ _ _ _ _ _ _ = no_expr_end kind
no_expr t (node.More kind first rest) _ _ _ _ _ _ _ _ _ _ _ _ _ _ _ _ _ _ _ _ _ _ _ _ _ = no_expr_more kind (t first) (t rest)
no_expr t _ _ _ _ _ _ _ _ _ _ _ _ _ _ _ _ _ _ _ _ _ _ _ _ _ _ = refl

-- properties and their keys
no_property_end : (kind : ListKind) → as_property (end_of kind) ≡ P.Shorthand None []
no_property_end list.Exprs = refl
no_property_end list.Stmts = refl
no_property_end list.Properties = refl
no_property_end list.TemplateParts = refl
no_property_end list.Params = refl
no_property_end list.Declarators = refl
no_property_end list.Cases = refl

no_property_more : (kind : ListKind) (x xs : Part) → as_property (before kind x xs) ≡ P.Shorthand None []
no_property_more list.Exprs x xs = refl
no_property_more list.Stmts x xs = refl
no_property_more list.Properties x xs = refl
no_property_more list.TemplateParts x xs = refl
no_property_more list.Params x xs = refl
no_property_more list.Declarators x xs = refl
no_property_more list.Cases x xs = refl

pub no_property : (t : Reader) (n : Node) → NotShorthand n → NotKeyValue n → NotMethod n → as_property (build t n) ≡ P.Shorthand None []
no_property t (node.Shorthand loc name) h _ _ = absurd (h loc name refl)
no_property t (node.KeyValue loc key value) _ h _ = absurd (h loc key value refl)
no_property t (node.Method loc key function) _ _ h = absurd (h loc key function refl)
no_property t (node.End kind) _ _ _ = no_property_end kind
no_property t (node.More kind first rest) _ _ _ = no_property_more kind (t first) (t rest)
no_property t _ _ _ _ = refl

no_key_end : (kind : ListKind) → as_property_key (end_of kind) ≡ P.NameKey []
no_key_end list.Exprs = refl
no_key_end list.Stmts = refl
no_key_end list.Properties = refl
no_key_end list.TemplateParts = refl
no_key_end list.Params = refl
no_key_end list.Declarators = refl
no_key_end list.Cases = refl

no_key_more : (kind : ListKind) (x xs : Part) → as_property_key (before kind x xs) ≡ P.NameKey []
no_key_more list.Exprs x xs = refl
no_key_more list.Stmts x xs = refl
no_key_more list.Properties x xs = refl
no_key_more list.TemplateParts x xs = refl
no_key_more list.Params x xs = refl
no_key_more list.Declarators x xs = refl
no_key_more list.Cases x xs = refl

pub no_key : (t : Reader) (n : Node) → NotNameKey n → NotStringKey n → NotNumberKey n → NotComputedKey n → as_property_key (build t n) ≡ P.NameKey []
no_key t (node.NameKey name) h _ _ _ = absurd (h name refl)
no_key t (node.StringKey literal) _ h _ _ = absurd (h literal refl)
no_key t (node.NumberKey numeral) _ _ h _ = absurd (h numeral refl)
no_key t (node.ComputedKey value) _ _ _ h = absurd (h value refl)
no_key t (node.End kind) _ _ _ _ = no_key_end kind
no_key t (node.More kind first rest) _ _ _ _ = no_key_more kind (t first) (t rest)
no_key t _ _ _ _ _ = refl

no_template_part_end : (kind : ListKind) → as_template_part (end_of kind) ≡ P.MakeTemplatePart (P.NullLiteral None) (record { spelling = []; units = [] })
no_template_part_end list.Exprs = refl
no_template_part_end list.Stmts = refl
no_template_part_end list.Properties = refl
no_template_part_end list.TemplateParts = refl
no_template_part_end list.Params = refl
no_template_part_end list.Declarators = refl
no_template_part_end list.Cases = refl

no_template_part_more : (kind : ListKind) (x xs : Part) → as_template_part (before kind x xs) ≡ P.MakeTemplatePart (P.NullLiteral None) (record { spelling = []; units = [] })
no_template_part_more list.Exprs x xs = refl
no_template_part_more list.Stmts x xs = refl
no_template_part_more list.Properties x xs = refl
no_template_part_more list.TemplateParts x xs = refl
no_template_part_more list.Params x xs = refl
no_template_part_more list.Declarators x xs = refl
no_template_part_more list.Cases x xs = refl

pub no_template_part : (t : Reader) (n : Node) → NotTemplatePart n → as_template_part (build t n) ≡ P.MakeTemplatePart (P.NullLiteral None) (record { spelling = []; units = [] })
no_template_part t (node.TemplatePart value text) h = absurd (h value text refl)
no_template_part t (node.End kind) _ = no_template_part_end kind
no_template_part t (node.More kind first rest) _ = no_template_part_more kind (t first) (t rest)
no_template_part t _ _ = refl

-- functions
no_code_end : (kind : ListKind) → as_code (end_of kind) ≡ Ordinary (P.MakeFunction 0 P.no_param (P.MakeFunctionBody None P.no_stmt))
no_code_end list.Exprs = refl
no_code_end list.Stmts = refl
no_code_end list.Properties = refl
no_code_end list.TemplateParts = refl
no_code_end list.Params = refl
no_code_end list.Declarators = refl
no_code_end list.Cases = refl

no_code_more : (kind : ListKind) (x xs : Part) → as_code (before kind x xs) ≡ Ordinary (P.MakeFunction 0 P.no_param (P.MakeFunctionBody None P.no_stmt))
no_code_more list.Exprs x xs = refl
no_code_more list.Stmts x xs = refl
no_code_more list.Properties x xs = refl
no_code_more list.TemplateParts x xs = refl
no_code_more list.Params x xs = refl
no_code_more list.Declarators x xs = refl
no_code_more list.Cases x xs = refl

pub no_code : (t : Reader) (n : Node) → NotFunction n → NotArrowExpression n → NotArrowBlock n → as_code (build t n) ≡ Ordinary (P.MakeFunction 0 P.no_param (P.MakeFunctionBody None P.no_stmt))
no_code t (node.Function is_method number length scope params body_loc body) h _ _ = absurd (h is_method number length scope params body_loc body refl)
no_code t (node.ArrowExpression number length scope params value) _ h _ = absurd (h number length scope params value refl)
no_code t (node.ArrowBlock number length scope params body_loc body) _ _ h = absurd (h number length scope params body_loc body refl)
no_code t (node.End kind) _ _ _ = no_code_end kind
no_code t (node.More kind first rest) _ _ _ = no_code_more kind (t first) (t rest)
no_code t _ _ _ _ = refl

no_param_end : (kind : ListKind) → as_param (end_of kind) ≡ P.MakeParam None (P.BindingIdentifier None []) P.none_expr
no_param_end list.Exprs = refl
no_param_end list.Stmts = refl
no_param_end list.Properties = refl
no_param_end list.TemplateParts = refl
no_param_end list.Params = refl
no_param_end list.Declarators = refl
no_param_end list.Cases = refl

no_param_more : (kind : ListKind) (x xs : Part) → as_param (before kind x xs) ≡ P.MakeParam None (P.BindingIdentifier None []) P.none_expr
no_param_more list.Exprs x xs = refl
no_param_more list.Stmts x xs = refl
no_param_more list.Properties x xs = refl
no_param_more list.TemplateParts x xs = refl
no_param_more list.Params x xs = refl
no_param_more list.Declarators x xs = refl
no_param_more list.Cases x xs = refl

pub no_param : (t : Reader) (n : Node) → NotParam n → as_param (build t n) ≡ P.MakeParam None (P.BindingIdentifier None []) P.none_expr
no_param t (node.Param loc name_loc name default) h = absurd (h loc name_loc name default refl)
no_param t (node.End kind) _ = no_param_end kind
no_param t (node.More kind first rest) _ = no_param_more kind (t first) (t rest)
no_param t _ _ = refl

-- declarators, loops, clauses
no_declarator_end : (kind : ListKind) → as_declarator (end_of kind) ≡ P.MakeDeclarator None (P.BindingIdentifier None []) P.none_expr
no_declarator_end list.Exprs = refl
no_declarator_end list.Stmts = refl
no_declarator_end list.Properties = refl
no_declarator_end list.TemplateParts = refl
no_declarator_end list.Params = refl
no_declarator_end list.Declarators = refl
no_declarator_end list.Cases = refl

no_declarator_more : (kind : ListKind) (x xs : Part) → as_declarator (before kind x xs) ≡ P.MakeDeclarator None (P.BindingIdentifier None []) P.none_expr
no_declarator_more list.Exprs x xs = refl
no_declarator_more list.Stmts x xs = refl
no_declarator_more list.Properties x xs = refl
no_declarator_more list.TemplateParts x xs = refl
no_declarator_more list.Params x xs = refl
no_declarator_more list.Declarators x xs = refl
no_declarator_more list.Cases x xs = refl

pub no_declarator : (t : Reader) (n : Node) → NotDeclarator n → as_declarator (build t n) ≡ P.MakeDeclarator None (P.BindingIdentifier None []) P.none_expr
no_declarator t (node.Declarator loc name_loc name initializer) h = absurd (h loc name_loc name initializer refl)
no_declarator t (node.End kind) _ = no_declarator_end kind
no_declarator t (node.More kind first rest) _ = no_declarator_more kind (t first) (t rest)
no_declarator t _ _ = refl

no_case_end : (kind : ListKind) → as_case (end_of kind) ≡ P.MakeCase None P.none_expr P.no_stmt
no_case_end list.Exprs = refl
no_case_end list.Stmts = refl
no_case_end list.Properties = refl
no_case_end list.TemplateParts = refl
no_case_end list.Params = refl
no_case_end list.Declarators = refl
no_case_end list.Cases = refl

no_case_more : (kind : ListKind) (x xs : Part) → as_case (before kind x xs) ≡ P.MakeCase None P.none_expr P.no_stmt
no_case_more list.Exprs x xs = refl
no_case_more list.Stmts x xs = refl
no_case_more list.Properties x xs = refl
no_case_more list.TemplateParts x xs = refl
no_case_more list.Params x xs = refl
no_case_more list.Declarators x xs = refl
no_case_more list.Cases x xs = refl

pub no_case : (t : Reader) (n : Node) → NotCase n → as_case (build t n) ≡ P.MakeCase None P.none_expr P.no_stmt
no_case t (node.Case loc test statements) h = absurd (h loc test statements refl)
no_case t (node.End kind) _ = no_case_end kind
no_case t (node.More kind first rest) _ = no_case_more kind (t first) (t rest)
no_case t _ _ = refl

no_catch_end : (kind : ListKind) → as_catch (end_of kind) ≡ P.MakeCatch P.none_pattern P.no_stmt
no_catch_end list.Exprs = refl
no_catch_end list.Stmts = refl
no_catch_end list.Properties = refl
no_catch_end list.TemplateParts = refl
no_catch_end list.Params = refl
no_catch_end list.Declarators = refl
no_catch_end list.Cases = refl

no_catch_more : (kind : ListKind) (x xs : Part) → as_catch (before kind x xs) ≡ P.MakeCatch P.none_pattern P.no_stmt
no_catch_more list.Exprs x xs = refl
no_catch_more list.Stmts x xs = refl
no_catch_more list.Properties x xs = refl
no_catch_more list.TemplateParts x xs = refl
no_catch_more list.Params x xs = refl
no_catch_more list.Declarators x xs = refl
no_catch_more list.Cases x xs = refl

pub no_catch : (t : Reader) (n : Node) → NotCatch n → NotCatchName n → as_catch (build t n) ≡ P.MakeCatch P.none_pattern P.no_stmt
no_catch t (node.Catch statements) h _ = absurd (h statements refl)
no_catch t (node.CatchName name_loc name statements) _ h = absurd (h name_loc name statements refl)
no_catch t (node.End kind) _ _ = no_catch_end kind
no_catch t (node.More kind first rest) _ _ = no_catch_more kind (t first) (t rest)
no_catch t _ _ _ = refl

no_init_end : (kind : ListKind) → as_for_init (end_of kind) ≡ P.NoInit
no_init_end list.Exprs = refl
no_init_end list.Stmts = refl
no_init_end list.Properties = refl
no_init_end list.TemplateParts = refl
no_init_end list.Params = refl
no_init_end list.Declarators = refl
no_init_end list.Cases = refl

no_init_more : (kind : ListKind) (x xs : Part) → as_for_init (before kind x xs) ≡ P.NoInit
no_init_more list.Exprs x xs = refl
no_init_more list.Stmts x xs = refl
no_init_more list.Properties x xs = refl
no_init_more list.TemplateParts x xs = refl
no_init_more list.Params x xs = refl
no_init_more list.Declarators x xs = refl
no_init_more list.Cases x xs = refl

pub no_init : (t : Reader) (n : Node) → NotInitDeclaration n → NotInitExpression n → as_for_init (build t n) ≡ P.NoInit
no_init t (node.InitDeclaration kind names fresh declarators) h _ = absurd (h kind names fresh declarators refl)
no_init t (node.InitExpression expression) _ h = absurd (h expression refl)
no_init t (node.End kind) _ _ = no_init_end kind
no_init t (node.More kind first rest) _ _ = no_init_more kind (t first) (t rest)
no_init t _ _ _ = refl

no_target_end : (kind : ListKind) → as_for_target (end_of kind) ≡ P.TargetExpression (P.NullLiteral None)
no_target_end list.Exprs = refl
no_target_end list.Stmts = refl
no_target_end list.Properties = refl
no_target_end list.TemplateParts = refl
no_target_end list.Params = refl
no_target_end list.Declarators = refl
no_target_end list.Cases = refl

no_target_more : (kind : ListKind) (x xs : Part) → as_for_target (before kind x xs) ≡ P.TargetExpression (P.NullLiteral None)
no_target_more list.Exprs x xs = refl
no_target_more list.Stmts x xs = refl
no_target_more list.Properties x xs = refl
no_target_more list.TemplateParts x xs = refl
no_target_more list.Params x xs = refl
no_target_more list.Declarators x xs = refl
no_target_more list.Cases x xs = refl

pub no_target : (t : Reader) (n : Node) → NotTargetDeclaration n → NotTargetExpression n → as_for_target (build t n) ≡ P.TargetExpression (P.NullLiteral None)
no_target t (node.TargetDeclaration kind name_loc name) h _ = absurd (h kind name_loc name refl)
no_target t (node.TargetExpression expression) _ h = absurd (h expression refl)
no_target t (node.End kind) _ _ = no_target_end kind
no_target t (node.More kind first rest) _ _ = no_target_more kind (t first) (t rest)
no_target t _ _ _ = refl

no_scope_end : (kind : ListKind) → as_scope (end_of kind) ≡ P.no_stmt
no_scope_end list.Exprs = refl
no_scope_end list.Stmts = refl
no_scope_end list.Properties = refl
no_scope_end list.TemplateParts = refl
no_scope_end list.Params = refl
no_scope_end list.Declarators = refl
no_scope_end list.Cases = refl

no_scope_more : (kind : ListKind) (x xs : Part) → as_scope (before kind x xs) ≡ P.no_stmt
no_scope_more list.Exprs x xs = refl
no_scope_more list.Stmts x xs = refl
no_scope_more list.Properties x xs = refl
no_scope_more list.TemplateParts x xs = refl
no_scope_more list.Params x xs = refl
no_scope_more list.Declarators x xs = refl
no_scope_more list.Cases x xs = refl

pub no_scope : (t : Reader) (n : Node) → NotScope n → as_scope (build t n) ≡ P.no_stmt
no_scope t (node.Scope scope statements) h = absurd (h scope statements refl)
no_scope t (node.End kind) _ = no_scope_end kind
no_scope t (node.More kind first rest) _ = no_scope_more kind (t first) (t rest)
no_scope t _ _ = refl

no_case_scope_end : (kind : ListKind) → as_case_scope (end_of kind) ≡ P.no_case
no_case_scope_end list.Exprs = refl
no_case_scope_end list.Stmts = refl
no_case_scope_end list.Properties = refl
no_case_scope_end list.TemplateParts = refl
no_case_scope_end list.Params = refl
no_case_scope_end list.Declarators = refl
no_case_scope_end list.Cases = refl

no_case_scope_more : (kind : ListKind) (x xs : Part) → as_case_scope (before kind x xs) ≡ P.no_case
no_case_scope_more list.Exprs x xs = refl
no_case_scope_more list.Stmts x xs = refl
no_case_scope_more list.Properties x xs = refl
no_case_scope_more list.TemplateParts x xs = refl
no_case_scope_more list.Params x xs = refl
no_case_scope_more list.Declarators x xs = refl
no_case_scope_more list.Cases x xs = refl

pub no_case_scope : (t : Reader) (n : Node) → NotCaseScope n → as_case_scope (build t n) ≡ P.no_case
no_case_scope t (node.CaseScope scope cases) h = absurd (h scope cases refl)
no_case_scope t (node.End kind) _ = no_case_scope_end kind
no_case_scope t (node.More kind first rest) _ = no_case_scope_more kind (t first) (t rest)
no_case_scope t _ _ = refl

-- a list ends at any other node
no_exprs_end : (kind : ListKind) → as_exprs (end_of kind) ≡ P.no_expr
no_exprs_end list.Exprs = refl
no_exprs_end list.Stmts = refl
no_exprs_end list.Properties = refl
no_exprs_end list.TemplateParts = refl
no_exprs_end list.Params = refl
no_exprs_end list.Declarators = refl
no_exprs_end list.Cases = refl

pub no_exprs : (t : Reader) (n : Node) → NotMore list.Exprs n → as_exprs (build t n) ≡ P.no_expr
no_exprs t (node.More list.Exprs first rest) h = absurd (h first rest refl)
no_exprs t (node.More list.Stmts first rest) h = refl
no_exprs t (node.More list.Properties first rest) h = refl
no_exprs t (node.More list.TemplateParts first rest) h = refl
no_exprs t (node.More list.Params first rest) h = refl
no_exprs t (node.More list.Declarators first rest) h = refl
no_exprs t (node.More list.Cases first rest) h = refl
no_exprs t (node.End kind) h = no_exprs_end kind
no_exprs t _ h = refl

no_stmts_end : (kind : ListKind) → as_stmts (end_of kind) ≡ P.no_stmt
no_stmts_end list.Exprs = refl
no_stmts_end list.Stmts = refl
no_stmts_end list.Properties = refl
no_stmts_end list.TemplateParts = refl
no_stmts_end list.Params = refl
no_stmts_end list.Declarators = refl
no_stmts_end list.Cases = refl

pub no_stmts : (t : Reader) (n : Node) → NotMore list.Stmts n → as_stmts (build t n) ≡ P.no_stmt
no_stmts t (node.More list.Exprs first rest) h = refl
no_stmts t (node.More list.Stmts first rest) h = absurd (h first rest refl)
no_stmts t (node.More list.Properties first rest) h = refl
no_stmts t (node.More list.TemplateParts first rest) h = refl
no_stmts t (node.More list.Params first rest) h = refl
no_stmts t (node.More list.Declarators first rest) h = refl
no_stmts t (node.More list.Cases first rest) h = refl
no_stmts t (node.End kind) h = no_stmts_end kind
no_stmts t _ h = refl

no_properties_end : (kind : ListKind) → as_properties (end_of kind) ≡ P.no_property
no_properties_end list.Exprs = refl
no_properties_end list.Stmts = refl
no_properties_end list.Properties = refl
no_properties_end list.TemplateParts = refl
no_properties_end list.Params = refl
no_properties_end list.Declarators = refl
no_properties_end list.Cases = refl

pub no_properties : (t : Reader) (n : Node) → NotMore list.Properties n → as_properties (build t n) ≡ P.no_property
no_properties t (node.More list.Exprs first rest) h = refl
no_properties t (node.More list.Stmts first rest) h = refl
no_properties t (node.More list.Properties first rest) h = absurd (h first rest refl)
no_properties t (node.More list.TemplateParts first rest) h = refl
no_properties t (node.More list.Params first rest) h = refl
no_properties t (node.More list.Declarators first rest) h = refl
no_properties t (node.More list.Cases first rest) h = refl
no_properties t (node.End kind) h = no_properties_end kind
no_properties t _ h = refl

no_template_parts_end : (kind : ListKind) → as_template_parts (end_of kind) ≡ P.no_template_part
no_template_parts_end list.Exprs = refl
no_template_parts_end list.Stmts = refl
no_template_parts_end list.Properties = refl
no_template_parts_end list.TemplateParts = refl
no_template_parts_end list.Params = refl
no_template_parts_end list.Declarators = refl
no_template_parts_end list.Cases = refl

pub no_template_parts : (t : Reader) (n : Node) → NotMore list.TemplateParts n → as_template_parts (build t n) ≡ P.no_template_part
no_template_parts t (node.More list.Exprs first rest) h = refl
no_template_parts t (node.More list.Stmts first rest) h = refl
no_template_parts t (node.More list.Properties first rest) h = refl
no_template_parts t (node.More list.TemplateParts first rest) h = absurd (h first rest refl)
no_template_parts t (node.More list.Params first rest) h = refl
no_template_parts t (node.More list.Declarators first rest) h = refl
no_template_parts t (node.More list.Cases first rest) h = refl
no_template_parts t (node.End kind) h = no_template_parts_end kind
no_template_parts t _ h = refl

no_params_end : (kind : ListKind) → as_params (end_of kind) ≡ P.no_param
no_params_end list.Exprs = refl
no_params_end list.Stmts = refl
no_params_end list.Properties = refl
no_params_end list.TemplateParts = refl
no_params_end list.Params = refl
no_params_end list.Declarators = refl
no_params_end list.Cases = refl

pub no_params : (t : Reader) (n : Node) → NotMore list.Params n → as_params (build t n) ≡ P.no_param
no_params t (node.More list.Exprs first rest) h = refl
no_params t (node.More list.Stmts first rest) h = refl
no_params t (node.More list.Properties first rest) h = refl
no_params t (node.More list.TemplateParts first rest) h = refl
no_params t (node.More list.Params first rest) h = absurd (h first rest refl)
no_params t (node.More list.Declarators first rest) h = refl
no_params t (node.More list.Cases first rest) h = refl
no_params t (node.End kind) h = no_params_end kind
no_params t _ h = refl

no_declarators_end : (kind : ListKind) → as_declarators (end_of kind) ≡ P.no_declarator
no_declarators_end list.Exprs = refl
no_declarators_end list.Stmts = refl
no_declarators_end list.Properties = refl
no_declarators_end list.TemplateParts = refl
no_declarators_end list.Params = refl
no_declarators_end list.Declarators = refl
no_declarators_end list.Cases = refl

pub no_declarators : (t : Reader) (n : Node) → NotMore list.Declarators n → as_declarators (build t n) ≡ P.no_declarator
no_declarators t (node.More list.Exprs first rest) h = refl
no_declarators t (node.More list.Stmts first rest) h = refl
no_declarators t (node.More list.Properties first rest) h = refl
no_declarators t (node.More list.TemplateParts first rest) h = refl
no_declarators t (node.More list.Params first rest) h = refl
no_declarators t (node.More list.Declarators first rest) h = absurd (h first rest refl)
no_declarators t (node.More list.Cases first rest) h = refl
no_declarators t (node.End kind) h = no_declarators_end kind
no_declarators t _ h = refl

no_cases_end : (kind : ListKind) → as_cases (end_of kind) ≡ P.no_case
no_cases_end list.Exprs = refl
no_cases_end list.Stmts = refl
no_cases_end list.Properties = refl
no_cases_end list.TemplateParts = refl
no_cases_end list.Params = refl
no_cases_end list.Declarators = refl
no_cases_end list.Cases = refl

pub no_cases : (t : Reader) (n : Node) → NotMore list.Cases n → as_cases (build t n) ≡ P.no_case
no_cases t (node.More list.Exprs first rest) h = refl
no_cases t (node.More list.Stmts first rest) h = refl
no_cases t (node.More list.Properties first rest) h = refl
no_cases t (node.More list.TemplateParts first rest) h = refl
no_cases t (node.More list.Params first rest) h = refl
no_cases t (node.More list.Declarators first rest) h = refl
no_cases t (node.More list.Cases first rest) h = absurd (h first rest refl)
no_cases t (node.End kind) h = no_cases_end kind
no_cases t _ h = refl

-- a part that may be missing
expr_end : (kind : ListKind) → as_expr_if (end_of kind) ≡ P.some_expr (as_expr (end_of kind))
expr_end list.Exprs = refl
expr_end list.Stmts = refl
expr_end list.Properties = refl
expr_end list.TemplateParts = refl
expr_end list.Params = refl
expr_end list.Declarators = refl
expr_end list.Cases = refl

expr_more : (kind : ListKind) (x xs : Part) → as_expr_if (before kind x xs) ≡ P.some_expr (as_expr (before kind x xs))
expr_more list.Exprs x xs = refl
expr_more list.Stmts x xs = refl
expr_more list.Properties x xs = refl
expr_more list.TemplateParts x xs = refl
expr_more list.Params x xs = refl
expr_more list.Declarators x xs = refl
expr_more list.Cases x xs = refl

stmt_end : (kind : ListKind) → as_stmt_if (end_of kind) ≡ P.some_stmt (as_stmt (end_of kind))
stmt_end list.Exprs = refl
stmt_end list.Stmts = refl
stmt_end list.Properties = refl
stmt_end list.TemplateParts = refl
stmt_end list.Params = refl
stmt_end list.Declarators = refl
stmt_end list.Cases = refl

stmt_more : (kind : ListKind) (x xs : Part) → as_stmt_if (before kind x xs) ≡ P.some_stmt (as_stmt (before kind x xs))
stmt_more list.Exprs x xs = refl
stmt_more list.Stmts x xs = refl
stmt_more list.Properties x xs = refl
stmt_more list.TemplateParts x xs = refl
stmt_more list.Params x xs = refl
stmt_more list.Declarators x xs = refl
stmt_more list.Cases x xs = refl

pub some_expr_if : (t : Reader) (n : Node) → NotMissing n → as_expr_if (build t n) ≡ P.some_expr (as_expr (build t n))
some_expr_if t node.Missing h = absurd (h refl)
some_expr_if t (node.End kind) h = expr_end kind
some_expr_if t (node.More kind first rest) h = expr_more kind (t first) (t rest)
some_expr_if t _ h = refl

pub some_stmt_if : (t : Reader) (n : Node) → NotMissing n → as_stmt_if (build t n) ≡ P.some_stmt (as_stmt (build t n))
some_stmt_if t node.Missing h = absurd (h refl)
some_stmt_if t (node.End kind) h = stmt_end kind
some_stmt_if t (node.More kind first rest) h = stmt_more kind (t first) (t rest)
some_stmt_if t _ h = refl
