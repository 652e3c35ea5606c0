-- A tree whose marks are others, and whose functions have no numbers.
use Rattle.js_terms.specs.Mark.{Mark}
use Rattle.js_tree.specs.Plain.{Expr, IdentifierReference, This, NullLiteral, BooleanLiteral, NumericLiteral, StringLiteral, ArrayLiteral, ObjectLiteral, FunctionExpression, ArrowFunction, RegularExpressionLiteral, TemplateLiteral, Parenthesized, NamedMember, ComputedMember, New, Call, PostfixUpdate, PrefixUpdate, Unary, Binary, Logical, Conditional, Assignment, Comma, Entered}
use Rattle.js_tree.specs.Plain.{Stmt, Directive, Block, VariableDeclaration, Empty, Expression, If, DoWhile, While, For, ForIn, ForOf, Continue, Break, Return, Switch, Labelled, Throw, TryCatch, TryFinally, TryCatchFinally, Debugger, FunctionDeclaration, EnteredStmt}
use Rattle.js_tree.specs.Plain.{Property, Shorthand, KeyValue, Method}
use Rattle.js_tree.specs.Plain.{PropertyKey, NameKey, StringKey, NumberKey, ComputedKey}
use Rattle.js_tree.specs.Plain.{ConciseBody, ExpressionBody, BlockBody}
use Rattle.js_tree.specs.Plain.{ForInit, NoInit, InitDeclaration, InitExpression}
use Rattle.js_tree.specs.Plain.{ForTarget, TargetDeclaration, TargetExpression}
use Rattle.js_tree.specs.Plain.{TemplatePart, MakeTemplatePart}
use Rattle.js_tree.specs.Plain.{Function, MakeFunction}
use Rattle.js_tree.specs.Plain.{FunctionBody, MakeFunctionBody, EnteredBody}
use Rattle.js_tree.specs.Plain.{Param, MakeParam}
use Rattle.js_tree.specs.Plain.{Declarator, MakeDeclarator}
use Rattle.js_tree.specs.Plain.{Case, MakeCase, EnteredCase}
use Rattle.js_tree.specs.Plain.{Catch, MakeCatch}
use Rattle.js_tree.specs.Plain.{MaybeExpr, none_expr, some_expr}
use Rattle.js_tree.specs.Plain.{MaybeStmt, none_stmt, some_stmt, entered_none}
use Rattle.js_tree.specs.Plain.{TemplateParts, no_template_part, more_template_part}
use Rattle.js_tree.specs.Plain.{Properties, no_property, more_property}
use Rattle.js_tree.specs.Plain.{Params, no_param, more_param}
use Rattle.js_tree.specs.Plain.{Exprs, no_expr, more_expr}
use Rattle.js_tree.specs.Plain.{Stmts, no_stmt, more_stmt}
use Rattle.js_tree.specs.Plain.{Declarators, no_declarator, more_declarator}
use Rattle.js_tree.specs.Plain.{Cases, no_case, more_case}

module _ (g : Mark → Mark) where
  abbrev mutual
    pub renamed_expr : Expr → Expr
    renamed_expr (IdentifierReference loc name) = IdentifierReference loc name
    renamed_expr (This loc) = This loc
    renamed_expr (NullLiteral loc) = NullLiteral loc
    renamed_expr (BooleanLiteral loc value) = BooleanLiteral loc value
    renamed_expr (NumericLiteral loc spelling) = NumericLiteral loc spelling
    renamed_expr (StringLiteral loc string) = StringLiteral loc string
    renamed_expr (ArrayLiteral loc items) = ArrayLiteral loc (renamed_exprs items)
    renamed_expr (ObjectLiteral loc properties) = ObjectLiteral loc (renamed_properties properties)
    renamed_expr (FunctionExpression loc name function) = FunctionExpression loc name (renamed_function function)
    renamed_expr (ArrowFunction loc number params body) = ArrowFunction loc 0 (renamed_params params) (renamed_concise_body body)
    renamed_expr (RegularExpressionLiteral loc body flags) = RegularExpressionLiteral loc body flags
    renamed_expr (TemplateLiteral loc head parts) = TemplateLiteral loc head (renamed_template_parts parts)
    renamed_expr (Parenthesized loc inner) = Parenthesized loc (renamed_expr inner)
    renamed_expr (NamedMember loc object name) = NamedMember loc (renamed_expr object) name
    renamed_expr (ComputedMember loc object key) = ComputedMember loc (renamed_expr object) (renamed_expr key)
    renamed_expr (New loc constructor arguments) = New loc (renamed_expr constructor) (renamed_exprs arguments)
    renamed_expr (Call loc callee arguments) = Call loc (renamed_expr callee) (renamed_exprs arguments)
    renamed_expr (PostfixUpdate loc operator operand) = PostfixUpdate loc operator (renamed_expr operand)
    renamed_expr (PrefixUpdate loc operator operand) = PrefixUpdate loc operator (renamed_expr operand)
    renamed_expr (Unary loc operator operand) = Unary loc operator (renamed_expr operand)
    renamed_expr (Binary loc operator left right) = Binary loc operator (renamed_expr left) (renamed_expr right)
    renamed_expr (Logical loc operator left right) = Logical loc operator (renamed_expr left) (renamed_expr right)
    renamed_expr (Conditional loc test then otherwise) = Conditional loc (renamed_expr test) (renamed_expr then) (renamed_expr otherwise)
    renamed_expr (Assignment loc operator target value) = Assignment loc operator (renamed_expr target) (renamed_expr value)
    renamed_expr (Comma loc left right) = Comma loc (renamed_expr left) (renamed_expr right)
    renamed_expr (Entered mark inner) = Entered (g mark) (renamed_expr inner)

    pub renamed_stmt : Stmt → Stmt
    renamed_stmt (Directive loc string) = Directive loc string
    renamed_stmt (Block loc statements) = Block loc (renamed_stmts statements)
    renamed_stmt (VariableDeclaration loc kind declarators) = VariableDeclaration loc kind (renamed_declarators declarators)
    renamed_stmt (Empty loc) = Empty loc
    renamed_stmt (Expression loc expression) = Expression loc (renamed_expr expression)
    renamed_stmt (If loc test then otherwise) = If loc (renamed_expr test) (renamed_stmt then) (renamed_stmt_if otherwise)
    renamed_stmt (DoWhile loc body test) = DoWhile loc (renamed_stmt body) (renamed_expr test)
    renamed_stmt (While loc test body) = While loc (renamed_expr test) (renamed_stmt body)
    renamed_stmt (For loc init test update body) = For loc (renamed_for_init init) (renamed_expr_if test) (renamed_expr_if update) (renamed_stmt body)
    renamed_stmt (ForIn loc target object body) = ForIn loc (renamed_for_target target) (renamed_expr object) (renamed_stmt body)
    renamed_stmt (ForOf loc target iterable body) = ForOf loc (renamed_for_target target) (renamed_expr iterable) (renamed_stmt body)
    renamed_stmt (Continue loc label) = Continue loc label
    renamed_stmt (Break loc label) = Break loc label
    renamed_stmt (Return loc value) = Return loc (renamed_expr_if value)
    renamed_stmt (Switch loc value cases) = Switch loc (renamed_expr value) (renamed_cases cases)
    renamed_stmt (Labelled loc label body) = Labelled loc label (renamed_stmt body)
    renamed_stmt (Throw loc value) = Throw loc (renamed_expr value)
    renamed_stmt (TryCatch loc block catch) = TryCatch loc (renamed_stmts block) (renamed_catch catch)
    renamed_stmt (TryFinally loc block finally) = TryFinally loc (renamed_stmts block) (renamed_stmts finally)
    renamed_stmt (TryCatchFinally loc block catch finally) = TryCatchFinally loc (renamed_stmts block) (renamed_catch catch) (renamed_stmts finally)
    renamed_stmt (Debugger loc) = Debugger loc
    renamed_stmt (FunctionDeclaration loc name function) = FunctionDeclaration loc name (renamed_function function)
    renamed_stmt (EnteredStmt mark inner) = EnteredStmt (g mark) (renamed_stmt inner)

    pub renamed_property : Property → Property
    renamed_property (Shorthand loc name) = Shorthand loc name
    renamed_property (KeyValue loc key value) = KeyValue loc (renamed_property_key key) (renamed_expr value)
    renamed_property (Method loc key function) = Method loc (renamed_property_key key) (renamed_function function)

    pub renamed_property_key : PropertyKey → PropertyKey
    renamed_property_key (NameKey name) = NameKey name
    renamed_property_key (StringKey string) = StringKey string
    renamed_property_key (NumberKey spelling) = NumberKey spelling
    renamed_property_key (ComputedKey key) = ComputedKey (renamed_expr key)

    pub renamed_concise_body : ConciseBody → ConciseBody
    renamed_concise_body (ExpressionBody value) = ExpressionBody (renamed_expr value)
    renamed_concise_body (BlockBody body) = BlockBody (renamed_function_body body)

    pub renamed_for_init : ForInit → ForInit
    renamed_for_init NoInit = NoInit
    renamed_for_init (InitDeclaration kind declarators) = InitDeclaration kind (renamed_declarators declarators)
    renamed_for_init (InitExpression expression) = InitExpression (renamed_expr expression)

    pub renamed_for_target : ForTarget → ForTarget
    renamed_for_target (TargetDeclaration kind pattern) = TargetDeclaration kind pattern
    renamed_for_target (TargetExpression target) = TargetExpression (renamed_expr target)

    pub renamed_template_part : TemplatePart → TemplatePart
    renamed_template_part (MakeTemplatePart value text) = MakeTemplatePart (renamed_expr value) text

    pub renamed_function : Function → Function
    renamed_function (MakeFunction number params body) = MakeFunction 0 (renamed_params params) (renamed_function_body body)

    pub renamed_function_body : FunctionBody → FunctionBody
    renamed_function_body (MakeFunctionBody loc statements) = MakeFunctionBody loc (renamed_stmts statements)
    renamed_function_body (EnteredBody mark body) = EnteredBody (g mark) (renamed_function_body body)

    pub renamed_param : Param → Param
    renamed_param (MakeParam loc pattern default) = MakeParam loc pattern (renamed_expr_if default)

    pub renamed_declarator : Declarator → Declarator
    renamed_declarator (MakeDeclarator loc pattern initializer) = MakeDeclarator loc pattern (renamed_expr_if initializer)

    pub renamed_case : Case → Case
    renamed_case (MakeCase loc test statements) = MakeCase loc (renamed_expr_if test) (renamed_stmts statements)
    renamed_case (EnteredCase mark case) = EnteredCase (g mark) (renamed_case case)

    pub renamed_catch : Catch → Catch
    renamed_catch (MakeCatch parameter statements) = MakeCatch parameter (renamed_stmts statements)

    pub renamed_expr_if : MaybeExpr → MaybeExpr
    renamed_expr_if none_expr = none_expr
    renamed_expr_if (some_expr x) = some_expr (renamed_expr x)

    pub renamed_stmt_if : MaybeStmt → MaybeStmt
    renamed_stmt_if none_stmt = none_stmt
    renamed_stmt_if (some_stmt x) = some_stmt (renamed_stmt x)
    renamed_stmt_if (entered_none mark) = entered_none (g mark)

    pub renamed_template_parts : TemplateParts → TemplateParts
    renamed_template_parts no_template_part = no_template_part
    renamed_template_parts (more_template_part x xs) = more_template_part (renamed_template_part x) (renamed_template_parts xs)

    pub renamed_properties : Properties → Properties
    renamed_properties no_property = no_property
    renamed_properties (more_property x xs) = more_property (renamed_property x) (renamed_properties xs)

    pub renamed_params : Params → Params
    renamed_params no_param = no_param
    renamed_params (more_param x xs) = more_param (renamed_param x) (renamed_params xs)

    pub renamed_exprs : Exprs → Exprs
    renamed_exprs no_expr = no_expr
    renamed_exprs (more_expr x xs) = more_expr (renamed_expr x) (renamed_exprs xs)

    pub renamed_stmts : Stmts → Stmts
    renamed_stmts no_stmt = no_stmt
    renamed_stmts (more_stmt x xs) = more_stmt (renamed_stmt x) (renamed_stmts xs)

    pub renamed_declarators : Declarators → Declarators
    renamed_declarators no_declarator = no_declarator
    renamed_declarators (more_declarator x xs) = more_declarator (renamed_declarator x) (renamed_declarators xs)

    pub renamed_cases : Cases → Cases
    renamed_cases no_case = no_case
    renamed_cases (more_case x xs) = more_case (renamed_case x) (renamed_cases xs)
