-- How a node is read as a part of a tree, where its own parts are read.
use Rattle.std.specs.Prelude.{◌≡◌, ℕ, Bool, true, false, ◌<◌, Option, None}
use Rattle.js_tree.specs.Plain as P
use Rattle.js_tree.specs.Codes.{Code, Ordinary, OfMethod, Arrow, number_of}
use Rattle.js_terms.specs.declared.place.Loc.{Loc}
use Rattle.js_meaning.specs.Scopes.{params_of, expected_arguments, lexical_names, bound_names, is_fresh, cases_stmts}
use Rattle.js_code.specs.declared.node.Node.{Node}
use Rattle.js_code.specs.declared.node.Node.TheVariants as node
use Rattle.js_code.specs.Literal.{spelled_of}
use Rattle.js_code.specs.Part.{Part, NoPart, AnExpr, AStmt, AProperty, APropertyKey, ATemplatePart, ACode, AParam, ADeclarator, ACase, ACatch, AForInit, AForTarget, AScope, ACaseScope, as_expr, as_stmt, as_property_key, as_code, as_catch, as_for_init, as_for_target, as_exprs, as_stmts, as_properties, as_template_parts, as_params, as_declarators, as_cases, as_scope, as_case_scope, as_expr_if, as_stmt_if, end_of, before}
use Rattle.js_code.specs.Scopes.{block_names, code_names}

-- the part that is read at each place
abbrev pub Reader : Type 0
Reader = ℕ → Part

-- the code of a function, and that of an arrow function, in an expression
abbrev pub of_method : Bool → P.Function → Code
of_method true function = OfMethod function
of_method false function = Ordinary function

abbrev pub function_of : Code → P.Function
function_of (Ordinary function) = function
function_of (OfMethod function) = function
function_of (Arrow number params body) = P.MakeFunction number params (P.MakeFunctionBody None P.no_stmt)

abbrev pub arrow_body : Code → P.ConciseBody
arrow_body (Ordinary (P.MakeFunction number params body)) = P.BlockBody body
arrow_body (OfMethod (P.MakeFunction number params body)) = P.BlockBody body
arrow_body (Arrow number params body) = body

abbrev pub arrow_of : Option Loc → Code → P.Expr
arrow_of loc code = P.ArrowFunction loc (number_of code) (params_of code) (arrow_body code)

-- a node, where its parts are read by t
abbrev pub build : Reader → Node → Part
build t (node.IdentifierReference loc name) = AnExpr (P.IdentifierReference loc name)
build t (node.This loc) = AnExpr (P.This loc)
build t (node.NullLiteral loc) = AnExpr (P.NullLiteral loc)
build t (node.BooleanLiteral loc value) = AnExpr (P.BooleanLiteral loc value)
build t (node.NumericLiteral loc numeral) = AnExpr (P.NumericLiteral loc numeral)
build t (node.StringLiteral loc literal) = AnExpr (P.StringLiteral loc (spelled_of literal))
build t (node.ArrayLiteral loc items) = AnExpr (P.ArrayLiteral loc (as_exprs (t items)))
build t (node.ObjectLiteral loc properties) = AnExpr (P.ObjectLiteral loc (as_properties (t properties)))
build t (node.FunctionExpression loc name function) = AnExpr (P.FunctionExpression loc name (function_of (as_code (t function))))
build t (node.ArrowFunction loc function) = AnExpr (arrow_of loc (as_code (t function)))
build t (node.RegularExpressionLiteral loc pattern flags) = AnExpr (P.RegularExpressionLiteral loc pattern flags)
build t (node.TemplateLiteral loc text parts) = AnExpr (P.TemplateLiteral loc (spelled_of text) (as_template_parts (t parts)))
build t (node.Parenthesized loc inner) = AnExpr (P.Parenthesized loc (as_expr (t inner)))
build t (node.NamedMember loc object name) = AnExpr (P.NamedMember loc (as_expr (t object)) name)
build t (node.ComputedMember loc object key) = AnExpr (P.ComputedMember loc (as_expr (t object)) (as_expr (t key)))
build t (node.New loc constructor arguments) = AnExpr (P.New loc (as_expr (t constructor)) (as_exprs (t arguments)))
build t (node.Call loc callee arguments) = AnExpr (P.Call loc (as_expr (t callee)) (as_exprs (t arguments)))
build t (node.PostfixUpdate loc operator target) = AnExpr (P.PostfixUpdate loc operator (as_expr (t target)))
build t (node.PrefixUpdate loc operator target) = AnExpr (P.PrefixUpdate loc operator (as_expr (t target)))
build t (node.Unary loc operator operand) = AnExpr (P.Unary loc operator (as_expr (t operand)))
build t (node.Binary loc operator left right) = AnExpr (P.Binary loc operator (as_expr (t left)) (as_expr (t right)))
build t (node.Logical loc operator left right) = AnExpr (P.Logical loc operator (as_expr (t left)) (as_expr (t right)))
build t (node.Conditional loc test holds fails) = AnExpr (P.Conditional loc (as_expr (t test)) (as_expr (t holds)) (as_expr (t fails)))
build t (node.Assignment loc operator target value) = AnExpr (P.Assignment loc operator (as_expr (t target)) (as_expr (t value)))
build t (node.Comma loc left right) = AnExpr (P.Comma loc (as_expr (t left)) (as_expr (t right)))
build t (node.TemplatePart value text) = ATemplatePart (P.MakeTemplatePart (as_expr (t value)) (spelled_of text))
build t (node.Shorthand loc name) = AProperty (P.Shorthand loc name)
build t (node.KeyValue loc key value) = AProperty (P.KeyValue loc (as_property_key (t key)) (as_expr (t value)))
build t (node.Method loc key function) = AProperty (P.Method loc (as_property_key (t key)) (function_of (as_code (t function))))
build t (node.NameKey name) = APropertyKey (P.NameKey name)
build t (node.StringKey literal) = APropertyKey (P.StringKey (spelled_of literal))
build t (node.NumberKey numeral) = APropertyKey (P.NumberKey numeral)
build t (node.ComputedKey value) = APropertyKey (P.ComputedKey (as_expr (t value)))
build t (node.Function is_method number length scope params body_loc body) = ACode (of_method is_method (P.MakeFunction number (as_params (t params)) (P.MakeFunctionBody body_loc (as_stmts (t body)))))
build t (node.ArrowExpression number length scope params value) = ACode (Arrow number (as_params (t params)) (P.ExpressionBody (as_expr (t value))))
build t (node.ArrowBlock number length scope params body_loc body) = ACode (Arrow number (as_params (t params)) (P.BlockBody (P.MakeFunctionBody body_loc (as_stmts (t body)))))
build t (node.Param loc name_loc name default) = AParam (P.MakeParam loc (P.BindingIdentifier name_loc name) (as_expr_if (t default)))
build t (node.Directive loc literal) = AStmt (P.Directive loc (spelled_of literal))
build t (node.Block loc statements) = AStmt (P.Block loc (as_scope (t statements)))
build t (node.VariableDeclaration loc kind declarators) = AStmt (P.VariableDeclaration loc kind (as_declarators (t declarators)))
build t (node.Empty loc) = AStmt (P.Empty loc)
build t (node.Expression loc expression) = AStmt (P.Expression loc (as_expr (t expression)))
build t (node.If loc test holds fails) = AStmt (P.If loc (as_expr (t test)) (as_stmt (t holds)) (as_stmt_if (t fails)))
build t (node.DoWhile loc body test) = AStmt (P.DoWhile loc (as_stmt (t body)) (as_expr (t test)))
build t (node.While loc test body) = AStmt (P.While loc (as_expr (t test)) (as_stmt (t body)))
build t (node.For loc init test update body) = AStmt (P.For loc (as_for_init (t init)) (as_expr_if (t test)) (as_expr_if (t update)) (as_stmt (t body)))
build t (node.ForIn loc target object body) = AStmt (P.ForIn loc (as_for_target (t target)) (as_expr (t object)) (as_stmt (t body)))
build t (node.ForOf loc target iterable body) = AStmt (P.ForOf loc (as_for_target (t target)) (as_expr (t iterable)) (as_stmt (t body)))
build t (node.Continue loc label) = AStmt (P.Continue loc label)
build t (node.Break loc label) = AStmt (P.Break loc label)
build t (node.Return loc value) = AStmt (P.Return loc (as_expr_if (t value)))
build t (node.Switch loc value cases) = AStmt (P.Switch loc (as_expr (t value)) (as_case_scope (t cases)))
build t (node.Labelled loc label body) = AStmt (P.Labelled loc label (as_stmt (t body)))
build t (node.Throw loc value) = AStmt (P.Throw loc (as_expr (t value)))
build t (node.TryCatch loc block catch) = AStmt (P.TryCatch loc (as_scope (t block)) (as_catch (t catch)))
build t (node.TryFinally loc block last) = AStmt (P.TryFinally loc (as_scope (t block)) (as_scope (t last)))
build t (node.TryCatchFinally loc block catch last) = AStmt (P.TryCatchFinally loc (as_scope (t block)) (as_catch (t catch)) (as_scope (t last)))
build t (node.Debugger loc) = AStmt (P.Debugger loc)
build t (node.FunctionDeclaration loc name function) = AStmt (P.FunctionDeclaration loc name (function_of (as_code (t function))))
build t (node.Declarator loc name_loc name initializer) = ADeclarator (P.MakeDeclarator loc (P.BindingIdentifier name_loc name) (as_expr_if (t initializer)))
build t node.NoInit = AForInit P.NoInit
build t (node.InitDeclaration kind names fresh declarators) = AForInit (P.InitDeclaration kind (as_declarators (t declarators)))
build t (node.InitExpression expression) = AForInit (P.InitExpression (as_expr (t expression)))
build t (node.TargetDeclaration kind name_loc name) = AForTarget (P.TargetDeclaration kind (P.BindingIdentifier name_loc name))
build t (node.TargetExpression expression) = AForTarget (P.TargetExpression (as_expr (t expression)))
build t (node.Case loc test statements) = ACase (P.MakeCase loc (as_expr_if (t test)) (as_stmts (t statements)))
build t (node.Catch statements) = ACatch (P.MakeCatch P.none_pattern (as_scope (t statements)))
build t (node.CatchName name_loc name statements) = ACatch (P.MakeCatch (P.some_pattern (P.BindingIdentifier name_loc name)) (as_scope (t statements)))
build t (node.Scope scope statements) = AScope (as_stmts (t statements))
build t (node.CaseScope scope cases) = ACaseScope (as_cases (t cases))
build t node.Missing = NoPart
build t (node.End kind) = end_of kind
build t (node.More kind first rest) = before kind (t first) (t rest)

-- the parts of a node stand before a place
abbrev pub PartsBelow : ℕ → Node → Type 0
PartsBelow i (node.ArrayLiteral loc items) = items < i
PartsBelow i (node.ObjectLiteral loc properties) = properties < i
PartsBelow i (node.FunctionExpression loc name function) = function < i
PartsBelow i (node.ArrowFunction loc function) = function < i
PartsBelow i (node.TemplateLiteral loc text parts) = parts < i
PartsBelow i (node.Parenthesized loc inner) = inner < i
PartsBelow i (node.NamedMember loc object name) = object < i
PartsBelow i (node.ComputedMember loc object key) = (object < i) × (key < i)
PartsBelow i (node.New loc constructor arguments) = (constructor < i) × (arguments < i)
PartsBelow i (node.Call loc callee arguments) = (callee < i) × (arguments < i)
PartsBelow i (node.PostfixUpdate loc operator target) = target < i
PartsBelow i (node.PrefixUpdate loc operator target) = target < i
PartsBelow i (node.Unary loc operator operand) = operand < i
PartsBelow i (node.Binary loc operator left right) = (left < i) × (right < i)
PartsBelow i (node.Logical loc operator left right) = (left < i) × (right < i)
PartsBelow i (node.Conditional loc test holds fails) = (test < i) × (holds < i) × (fails < i)
PartsBelow i (node.Assignment loc operator target value) = (target < i) × (value < i)
PartsBelow i (node.Comma loc left right) = (left < i) × (right < i)
PartsBelow i (node.TemplatePart value text) = value < i
PartsBelow i (node.KeyValue loc key value) = (key < i) × (value < i)
PartsBelow i (node.Method loc key function) = (key < i) × (function < i)
PartsBelow i (node.ComputedKey value) = value < i
PartsBelow i (node.Function is_method number length scope params body_loc body) = (params < i) × (body < i)
PartsBelow i (node.ArrowExpression number length scope params value) = (params < i) × (value < i)
PartsBelow i (node.ArrowBlock number length scope params body_loc body) = (params < i) × (body < i)
PartsBelow i (node.Param loc name_loc name default) = default < i
PartsBelow i (node.Block loc statements) = statements < i
PartsBelow i (node.VariableDeclaration loc kind declarators) = declarators < i
PartsBelow i (node.Expression loc expression) = expression < i
PartsBelow i (node.If loc test holds fails) = (test < i) × (holds < i) × (fails < i)
PartsBelow i (node.DoWhile loc body test) = (body < i) × (test < i)
PartsBelow i (node.While loc test body) = (test < i) × (body < i)
PartsBelow i (node.For loc init test update body) = (init < i) × (test < i) × (update < i) × (body < i)
PartsBelow i (node.ForIn loc target object body) = (target < i) × (object < i) × (body < i)
PartsBelow i (node.ForOf loc target iterable body) = (target < i) × (iterable < i) × (body < i)
PartsBelow i (node.Return loc value) = value < i
PartsBelow i (node.Switch loc value cases) = (value < i) × (cases < i)
PartsBelow i (node.Labelled loc label body) = body < i
PartsBelow i (node.Throw loc value) = value < i
PartsBelow i (node.TryCatch loc block catch) = (block < i) × (catch < i)
PartsBelow i (node.TryFinally loc block last) = (block < i) × (last < i)
PartsBelow i (node.TryCatchFinally loc block catch last) = (block < i) × (catch < i) × (last < i)
PartsBelow i (node.FunctionDeclaration loc name function) = function < i
PartsBelow i (node.Declarator loc name_loc name initializer) = initializer < i
PartsBelow i (node.InitDeclaration kind names fresh declarators) = declarators < i
PartsBelow i (node.InitExpression expression) = expression < i
PartsBelow i (node.TargetExpression expression) = expression < i
PartsBelow i (node.Case loc test statements) = (test < i) × (statements < i)
PartsBelow i (node.Catch statements) = statements < i
PartsBelow i (node.CatchName name_loc name statements) = statements < i
PartsBelow i (node.Scope scope statements) = statements < i
PartsBelow i (node.CaseScope scope cases) = cases < i
PartsBelow i (node.More kind first rest) = (first < i) × (rest < i)
PartsBelow i _ = Unit {0}

-- what a node tells of its scope and of its shape is that of what it reads as
abbrev pub ScopeHolds : Reader → Node → Type 0
ScopeHolds t (node.Scope scope statements) = scope ≡ block_names (as_stmts (t statements))
ScopeHolds t (node.CaseScope scope cases) = scope ≡ block_names (cases_stmts (as_cases (t cases)))
ScopeHolds t (node.InitDeclaration kind names fresh declarators) =
    (names ≡ lexical_names kind (bound_names (as_declarators (t declarators)))) × (fresh ≡ is_fresh (P.InitDeclaration kind (as_declarators (t declarators))))
ScopeHolds t (node.Function is_method number length scope params body_loc body) =
    (length ≡ expected_arguments (as_params (t params))) × (scope ≡ code_names (as_params (t params)) (as_stmts (t body)))
ScopeHolds t (node.ArrowExpression number length scope params value) =
    (length ≡ expected_arguments (as_params (t params))) × (scope ≡ code_names (as_params (t params)) P.no_stmt)
ScopeHolds t (node.ArrowBlock number length scope params body_loc body) =
    (length ≡ expected_arguments (as_params (t params))) × (scope ≡ code_names (as_params (t params)) (as_stmts (t body)))
ScopeHolds t _ = Unit {0}
