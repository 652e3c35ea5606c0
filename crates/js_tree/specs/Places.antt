-- Where the parts of a tree stand in the text: nowhere, where they were inserted.
use Rattle.std.specs.Prelude.{Option, None}
use Rattle.js_terms.specs.declared.place.Loc.{Loc}
use Rattle.js_tree.specs.Plain.{Expr, IdentifierReference, This, NullLiteral, BooleanLiteral, NumericLiteral, StringLiteral, ArrayLiteral, ObjectLiteral, FunctionExpression, ArrowFunction, RegularExpressionLiteral, TemplateLiteral, Parenthesized, NamedMember, ComputedMember, New, Call, PostfixUpdate, PrefixUpdate, Unary, Binary, Logical, Conditional, Assignment, Comma, Entered}
use Rattle.js_tree.specs.Plain.{Stmt, Directive, Block, VariableDeclaration, Empty, Expression, If, DoWhile, While, For, ForIn, ForOf, Continue, Break, Return, Switch, Labelled, Throw, TryCatch, TryFinally, TryCatchFinally, Debugger, FunctionDeclaration, EnteredStmt}
use Rattle.js_tree.specs.Plain.{Function, MakeFunction, FunctionBody, MakeFunctionBody, EnteredBody, ConciseBody, ExpressionBody, BlockBody}
use Rattle.js_tree.specs.Plain.{Property, Shorthand, KeyValue, Method, Param, MakeParam, Declarator, MakeDeclarator}
use Rattle.js_tree.specs.Plain.{Case, MakeCase, EnteredCase, MaybeStmt, none_stmt, some_stmt, entered_none}

-- an expression, without parentheses round it
abbrev pub bare_place : Expr → Option Loc
bare_place (IdentifierReference loc _) = loc
bare_place (This loc) = loc
bare_place (NullLiteral loc) = loc
bare_place (BooleanLiteral loc _) = loc
bare_place (NumericLiteral loc _) = loc
bare_place (StringLiteral loc _) = loc
bare_place (ArrayLiteral loc _) = loc
bare_place (ObjectLiteral loc _) = loc
bare_place (FunctionExpression loc _ _) = loc
bare_place (ArrowFunction loc _ _ _) = loc
bare_place (RegularExpressionLiteral loc _ _) = loc
bare_place (TemplateLiteral loc _ _) = loc
bare_place (Parenthesized _ inner) = bare_place inner
bare_place (NamedMember loc _ _) = loc
bare_place (ComputedMember loc _ _) = loc
bare_place (New loc _ _) = loc
bare_place (Call loc _ _) = loc
bare_place (PostfixUpdate loc _ _) = loc
bare_place (PrefixUpdate loc _ _) = loc
bare_place (Unary loc _ _) = loc
bare_place (Binary loc _ _ _) = loc
bare_place (Logical loc _ _ _) = loc
bare_place (Conditional loc _ _ _) = loc
bare_place (Assignment loc _ _ _) = loc
bare_place (Comma loc _ _) = loc
bare_place (Entered _ inner) = bare_place inner

-- an expression, with the parentheses round it
abbrev pub expr_place : Expr → Option Loc
expr_place (Parenthesized loc _) = loc
expr_place (Entered _ e) = expr_place e
expr_place e = bare_place e

-- a statement
abbrev pub stmt_place : Stmt → Option Loc
stmt_place (Directive loc _) = loc
stmt_place (Block loc _) = loc
stmt_place (VariableDeclaration loc _ _) = loc
stmt_place (Empty loc) = loc
stmt_place (Expression loc _) = loc
stmt_place (If loc _ _ _) = loc
stmt_place (DoWhile loc _ _) = loc
stmt_place (While loc _ _) = loc
stmt_place (For loc _ _ _ _) = loc
stmt_place (ForIn loc _ _ _) = loc
stmt_place (ForOf loc _ _ _) = loc
stmt_place (Continue loc _) = loc
stmt_place (Break loc _) = loc
stmt_place (Return loc _) = loc
stmt_place (Switch loc _ _) = loc
stmt_place (Labelled loc _ _) = loc
stmt_place (Throw loc _) = loc
stmt_place (TryCatch loc _ _) = loc
stmt_place (TryFinally loc _ _) = loc
stmt_place (TryCatchFinally loc _ _ _) = loc
stmt_place (Debugger loc) = loc
stmt_place (FunctionDeclaration loc _ _) = loc
stmt_place (EnteredStmt _ inner) = stmt_place inner

-- nowhere, where there is no statement
abbrev pub stmt_if_place : MaybeStmt → Option Loc
stmt_if_place none_stmt = None
stmt_if_place (some_stmt s) = stmt_place s
stmt_if_place (entered_none _) = None

-- a property
abbrev pub property_place : Property → Option Loc
property_place (Shorthand loc _) = loc
property_place (KeyValue loc _ _) = loc
property_place (Method loc _ _) = loc

-- a parameter
abbrev pub param_place : Param → Option Loc
param_place (MakeParam loc _ _) = loc

-- a declarator
abbrev pub declarator_place : Declarator → Option Loc
declarator_place (MakeDeclarator loc _ _) = loc

-- a case of a `switch`
abbrev pub case_place : Case → Option Loc
case_place (MakeCase loc _ _) = loc
case_place (EnteredCase _ case) = case_place case

-- the body of a function
abbrev pub braced_place : FunctionBody → Option Loc
braced_place (MakeFunctionBody loc _) = loc
braced_place (EnteredBody _ body) = braced_place body

abbrev pub body_place : Function → Option Loc
body_place (MakeFunction _ _ body) = braced_place body

-- the body of an arrow
abbrev pub concise_place : ConciseBody → Option Loc
concise_place (ExpressionBody value) = bare_place value
concise_place (BlockBody body) = braced_place body
