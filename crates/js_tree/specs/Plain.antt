-- The tree as plain data, in ECMA-262's words. Every definition goes by cases over it. A tree as it is read has no marks, and 0 as
-- the number of each function.
use Rattle.std.specs.Prelude.{ℕ, Bool, List, Option}
use Rattle.js_terms.specs.declared.operators.AssignmentOperator.{AssignmentOperator}
use Rattle.js_terms.specs.declared.operators.BinaryOperator.{BinaryOperator}
use Rattle.js_terms.specs.declared.operators.LogicalOperator.{LogicalOperator}
use Rattle.js_terms.specs.declared.operators.UnaryOperator.{UnaryOperator}
use Rattle.js_terms.specs.declared.operators.UpdateOperator.{UpdateOperator}
use Rattle.js_terms.specs.declared.operators.VariableKind.{VariableKind}
use Rattle.js_terms.specs.declared.place.Loc.{Loc}
use Rattle.js_terms.specs.declared.words.Comment.{Comment}
use Rattle.js_terms.specs.declared.words.Identifier.{Identifier}
use Rattle.js_terms.specs.declared.words.Spelled.{Spelled}
use Rattle.js_terms.specs.Mark.{Mark}

mutual
  -- an expression (13)
  pub data Expr : Type 0 where
    IdentifierReference : Option Loc → List ℕ → Expr
    This : Option Loc → Expr
    NullLiteral : Option Loc → Expr
    BooleanLiteral : Option Loc → Bool → Expr
    NumericLiteral : Option Loc → List ℕ → Expr
    StringLiteral : Option Loc → Spelled → Expr
    ArrayLiteral : Option Loc → Exprs → Expr
    ObjectLiteral : Option Loc → Properties → Expr
    FunctionExpression : Option Loc → Option Identifier → Function → Expr
    ArrowFunction : Option Loc → ℕ → Params → ConciseBody → Expr
    RegularExpressionLiteral : Option Loc → List ℕ → List ℕ → Expr
    TemplateLiteral : Option Loc → Spelled → TemplateParts → Expr
    Parenthesized : Option Loc → Expr → Expr
    NamedMember : Option Loc → Expr → List ℕ → Expr
    ComputedMember : Option Loc → Expr → Expr → Expr
    New : Option Loc → Expr → Exprs → Expr
    Call : Option Loc → Expr → Exprs → Expr
    PostfixUpdate : Option Loc → UpdateOperator → Expr → Expr
    PrefixUpdate : Option Loc → UpdateOperator → Expr → Expr
    Unary : Option Loc → UnaryOperator → Expr → Expr
    Binary : Option Loc → BinaryOperator → Expr → Expr → Expr
    Logical : Option Loc → LogicalOperator → Expr → Expr → Expr
    Conditional : Option Loc → Expr → Expr → Expr → Expr
    Assignment : Option Loc → AssignmentOperator → Expr → Expr → Expr
    Comma : Option Loc → Expr → Expr → Expr
    -- in no source: an expression whose evaluation enters a construct
    Entered : Mark → Expr → Expr

  -- a statement or a directive (14, 11.2.1)
  pub data Stmt : Type 0 where
    Directive : Option Loc → Spelled → Stmt
    Block : Option Loc → Stmts → Stmt
    VariableDeclaration : Option Loc → VariableKind → Declarators → Stmt
    Empty : Option Loc → Stmt
    Expression : Option Loc → Expr → Stmt
    If : Option Loc → Expr → Stmt → MaybeStmt → Stmt
    DoWhile : Option Loc → Stmt → Expr → Stmt
    While : Option Loc → Expr → Stmt → Stmt
    For : Option Loc → ForInit → MaybeExpr → MaybeExpr → Stmt → Stmt
    ForIn : Option Loc → ForTarget → Expr → Stmt → Stmt
    ForOf : Option Loc → ForTarget → Expr → Stmt → Stmt
    Continue : Option Loc → Option Identifier → Stmt
    Break : Option Loc → Option Identifier → Stmt
    Return : Option Loc → MaybeExpr → Stmt
    Switch : Option Loc → Expr → Cases → Stmt
    Labelled : Option Loc → Identifier → Stmt → Stmt
    Throw : Option Loc → Expr → Stmt
    TryCatch : Option Loc → Stmts → Catch → Stmt
    TryFinally : Option Loc → Stmts → Stmts → Stmt
    TryCatchFinally : Option Loc → Stmts → Catch → Stmts → Stmt
    Debugger : Option Loc → Stmt
    FunctionDeclaration : Option Loc → Identifier → Function → Stmt
    -- in no source: a statement whose execution enters a construct
    EnteredStmt : Mark → Stmt → Stmt

  -- a property of an object literal (13.2.5)
  pub data Property : Type 0 where
    Shorthand : Option Loc → List ℕ → Property
    KeyValue : Option Loc → PropertyKey → Expr → Property
    Method : Option Loc → PropertyKey → Function → Property

  -- the key of a property (13.2.5)
  pub data PropertyKey : Type 0 where
    NameKey : List ℕ → PropertyKey
    StringKey : Spelled → PropertyKey
    NumberKey : List ℕ → PropertyKey
    ComputedKey : Expr → PropertyKey

  -- the body of an arrow function (15.3)
  pub data ConciseBody : Type 0 where
    ExpressionBody : Expr → ConciseBody
    BlockBody : FunctionBody → ConciseBody

  -- the first part of a `for` (14.7.4)
  pub data ForInit : Type 0 where
    NoInit : ForInit
    InitDeclaration : VariableKind → Declarators → ForInit
    InitExpression : Expr → ForInit

  -- what takes the keys or the items of a `for` with `in` or `of` (14.7.5)
  pub data ForTarget : Type 0 where
    TargetDeclaration : VariableKind → Pattern → ForTarget
    TargetExpression : Expr → ForTarget

  -- a substitution of a template, and the text after it (13.2.8)
  pub data TemplatePart : Type 0 where
    MakeTemplatePart : Expr → Spelled → TemplatePart

  -- the number in its program, the parameters and the body of a function or a method (15.2, 15.4)
  pub data Function : Type 0 where
    MakeFunction : ℕ → Params → FunctionBody → Function

  -- a function's body in braces (15.2)
  pub data FunctionBody : Type 0 where
    MakeFunctionBody : Option Loc → Stmts → FunctionBody
    -- in no source: a body that enters a construct where it starts
    EnteredBody : Mark → FunctionBody → FunctionBody

  -- a parameter, and its default (15.1)
  pub data Param : Type 0 where
    MakeParam : Option Loc → Pattern → MaybeExpr → Param

  -- a variable that is declared, and its initializer (14.3)
  pub data Declarator : Type 0 where
    MakeDeclarator : Option Loc → Pattern → MaybeExpr → Declarator

  -- a clause of a `switch`, without a test for `default` (14.12)
  pub data Case : Type 0 where
    MakeCase : Option Loc → MaybeExpr → Stmts → Case
    -- in no source: a clause that enters a construct where its statements begin
    EnteredCase : Mark → Case → Case

  -- a `catch` clause (14.15)
  pub data Catch : Type 0 where
    MakeCatch : MaybePattern → Stmts → Catch

  -- what a declaration, a parameter or a `catch` binds (14.3)
  pub data Pattern : Type 0 where
    BindingIdentifier : Option Loc → List ℕ → Pattern

  -- a pattern, or none
  pub data MaybePattern : Type 0 where
    none_pattern : MaybePattern
    some_pattern : Pattern → MaybePattern

  -- an expression, or none
  pub data MaybeExpr : Type 0 where
    none_expr : MaybeExpr
    some_expr : Expr → MaybeExpr

  -- a statement, or none
  pub data MaybeStmt : Type 0 where
    none_stmt : MaybeStmt
    some_stmt : Stmt → MaybeStmt
    -- in no source: none, and a construct that is entered where it would stand
    entered_none : Mark → MaybeStmt

  -- items of an array, or arguments
  pub data Exprs : Type 0 where
    no_expr : Exprs
    more_expr : Expr → Exprs → Exprs

  -- parts of a template
  pub data TemplateParts : Type 0 where
    no_template_part : TemplateParts
    more_template_part : TemplatePart → TemplateParts → TemplateParts

  -- properties
  pub data Properties : Type 0 where
    no_property : Properties
    more_property : Property → Properties → Properties

  -- parameters
  pub data Params : Type 0 where
    no_param : Params
    more_param : Param → Params → Params

  -- statements
  pub data Stmts : Type 0 where
    no_stmt : Stmts
    more_stmt : Stmt → Stmts → Stmts

  -- declarators
  pub data Declarators : Type 0 where
    no_declarator : Declarators
    more_declarator : Declarator → Declarators → Declarators

  -- clauses of a `switch`
  pub data Cases : Type 0 where
    no_case : Cases
    more_case : Case → Cases → Cases

-- a file's body (16.1), and its comments (12.4)
pub data File : Type 0 where
  MakeFile : Stmts → List Comment → File

-- one more at the end
abbrev pub push_exprs : Exprs → Expr → Exprs
push_exprs no_expr x = more_expr x no_expr
push_exprs (more_expr y ys) x = more_expr y (push_exprs ys x)

-- one more at the end
abbrev pub push_template_parts : TemplateParts → TemplatePart → TemplateParts
push_template_parts no_template_part x = more_template_part x no_template_part
push_template_parts (more_template_part y ys) x = more_template_part y (push_template_parts ys x)

-- one more at the end
abbrev pub push_properties : Properties → Property → Properties
push_properties no_property x = more_property x no_property
push_properties (more_property y ys) x = more_property y (push_properties ys x)

-- one more at the end
abbrev pub push_params : Params → Param → Params
push_params no_param x = more_param x no_param
push_params (more_param y ys) x = more_param y (push_params ys x)

-- one more at the end
abbrev pub push_stmts : Stmts → Stmt → Stmts
push_stmts no_stmt x = more_stmt x no_stmt
push_stmts (more_stmt y ys) x = more_stmt y (push_stmts ys x)

-- one more at the end
abbrev pub push_declarators : Declarators → Declarator → Declarators
push_declarators no_declarator x = more_declarator x no_declarator
push_declarators (more_declarator y ys) x = more_declarator y (push_declarators ys x)

-- one more at the end
abbrev pub push_cases : Cases → Case → Cases
push_cases no_case x = more_case x no_case
push_cases (more_case y ys) x = more_case y (push_cases ys x)
