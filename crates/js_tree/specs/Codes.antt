-- The functions in a tree, in the order of their numbers: each before those in it, a method before those of its key.
use Rattle.std.specs.Prelude.{◌≡◌, ℕ, zero, suc, ◌+◌, Bool, true, false, List, [], ◌∷◌, ◌++◌, map}
use Rattle.js_tree.specs.Linked.{Marking, Numbers, link_file}
use Rattle.js_tree.specs.Plain as tree
use Rattle.js_tree.specs.Plain.{Expr, Stmt, Property, PropertyKey, ConciseBody, ForInit, ForTarget, TemplatePart, Function, FunctionBody, Param, Declarator, Case, Catch, MaybeExpr, MaybeStmt, Exprs, TemplateParts, Properties, Params, Stmts, Declarators, Cases, File}

-- a function that is declared or an expression, that of a method, or an arrow function
pub data Code : Type 0 where
  Ordinary : Function → Code
  OfMethod : Function → Code
  Arrow : ℕ → Params → ConciseBody → Code

abbrev pub number_of : Code → ℕ
number_of (Ordinary (tree.MakeFunction number params body)) = number
number_of (OfMethod (tree.MakeFunction number params body)) = number
number_of (Arrow number params body) = number

-- whether `new` may call it: a function that is no method and no arrow (10.2.5, 15.3, 15.4)
abbrev pub is_constructor : Code → Bool
is_constructor (Ordinary function) = true
is_constructor (OfMethod function) = false
is_constructor (Arrow number params body) = false

abbrev mutual
  pub functions_expr : Expr → List Code
  functions_expr (tree.IdentifierReference _ _) = []
  functions_expr (tree.This _) = []
  functions_expr (tree.NullLiteral _) = []
  functions_expr (tree.BooleanLiteral _ _) = []
  functions_expr (tree.NumericLiteral _ _) = []
  functions_expr (tree.StringLiteral _ _) = []
  functions_expr (tree.ArrayLiteral _ es) = functions_exprs es
  functions_expr (tree.ObjectLiteral _ properties) = functions_properties properties
  functions_expr (tree.FunctionExpression _ _ function) = functions_function function
  functions_expr (tree.ArrowFunction _ number params body) = (Arrow number params body) ∷ (functions_params params ++ functions_concise_body body)
  functions_expr (tree.RegularExpressionLiteral _ _ _) = []
  functions_expr (tree.TemplateLiteral _ _ parts) = functions_template_parts parts
  functions_expr (tree.Parenthesized _ e) = functions_expr e
  functions_expr (tree.NamedMember _ e _) = functions_expr e
  functions_expr (tree.ComputedMember _ e f) = functions_expr e ++ functions_expr f
  functions_expr (tree.New _ e es) = functions_expr e ++ functions_exprs es
  functions_expr (tree.Call _ e es) = functions_expr e ++ functions_exprs es
  functions_expr (tree.PostfixUpdate _ _ e) = functions_expr e
  functions_expr (tree.PrefixUpdate _ _ e) = functions_expr e
  functions_expr (tree.Unary _ _ e) = functions_expr e
  functions_expr (tree.Binary _ _ e f) = functions_expr e ++ functions_expr f
  functions_expr (tree.Logical _ _ e f) = functions_expr e ++ functions_expr f
  functions_expr (tree.Conditional _ e f g) = functions_expr e ++ functions_expr f ++ functions_expr g
  functions_expr (tree.Assignment _ _ e f) = functions_expr e ++ functions_expr f
  functions_expr (tree.Comma _ e f) = functions_expr e ++ functions_expr f
  functions_expr (tree.Entered _ e) = functions_expr e

  pub functions_stmt : Stmt → List Code
  functions_stmt (tree.Directive _ _) = []
  functions_stmt (tree.Block _ xs) = functions_stmts xs
  functions_stmt (tree.VariableDeclaration _ _ declarators) = functions_declarators declarators
  functions_stmt (tree.Empty _) = []
  functions_stmt (tree.Expression _ e) = functions_expr e
  functions_stmt (tree.If _ e x y) = functions_expr e ++ functions_stmt x ++ functions_stmt_if y
  functions_stmt (tree.DoWhile _ x e) = functions_stmt x ++ functions_expr e
  functions_stmt (tree.While _ e x) = functions_expr e ++ functions_stmt x
  functions_stmt (tree.For _ init e f x) = functions_for_init init ++ functions_expr_if e ++ functions_expr_if f ++ functions_stmt x
  functions_stmt (tree.ForIn _ target e x) = functions_for_target target ++ functions_expr e ++ functions_stmt x
  functions_stmt (tree.ForOf _ target e x) = functions_for_target target ++ functions_expr e ++ functions_stmt x
  functions_stmt (tree.Continue _ _) = []
  functions_stmt (tree.Break _ _) = []
  functions_stmt (tree.Return _ e) = functions_expr_if e
  functions_stmt (tree.Switch _ e cases) = functions_expr e ++ functions_cases cases
  functions_stmt (tree.Labelled _ _ x) = functions_stmt x
  functions_stmt (tree.Throw _ e) = functions_expr e
  functions_stmt (tree.TryCatch _ xs catch) = functions_stmts xs ++ functions_catch catch
  functions_stmt (tree.TryFinally _ xs ys) = functions_stmts xs ++ functions_stmts ys
  functions_stmt (tree.TryCatchFinally _ xs catch ys) = functions_stmts xs ++ functions_catch catch ++ functions_stmts ys
  functions_stmt (tree.Debugger _) = []
  functions_stmt (tree.FunctionDeclaration _ _ function) = functions_function function
  functions_stmt (tree.EnteredStmt _ x) = functions_stmt x

  pub functions_property : Property → List Code
  functions_property (tree.Shorthand _ _) = []
  functions_property (tree.KeyValue _ key e) = functions_property_key key ++ functions_expr e
  functions_property (tree.Method _ key (tree.MakeFunction number params body)) =
      OfMethod (tree.MakeFunction number params body) ∷ (functions_property_key key ++ functions_params params ++ functions_function_body body)

  pub functions_property_key : PropertyKey → List Code
  functions_property_key (tree.NameKey _) = []
  functions_property_key (tree.StringKey _) = []
  functions_property_key (tree.NumberKey _) = []
  functions_property_key (tree.ComputedKey e) = functions_expr e

  pub functions_concise_body : ConciseBody → List Code
  functions_concise_body (tree.ExpressionBody e) = functions_expr e
  functions_concise_body (tree.BlockBody body) = functions_function_body body

  pub functions_for_init : ForInit → List Code
  functions_for_init tree.NoInit = []
  functions_for_init (tree.InitDeclaration _ declarators) = functions_declarators declarators
  functions_for_init (tree.InitExpression e) = functions_expr e

  pub functions_for_target : ForTarget → List Code
  functions_for_target (tree.TargetDeclaration _ _) = []
  functions_for_target (tree.TargetExpression e) = functions_expr e

  pub functions_template_part : TemplatePart → List Code
  functions_template_part (tree.MakeTemplatePart e _) = functions_expr e

  pub functions_function : Function → List Code
  functions_function (tree.MakeFunction number params body) = Ordinary (tree.MakeFunction number params body) ∷ (functions_params params ++ functions_function_body body)

  pub functions_function_body : FunctionBody → List Code
  functions_function_body (tree.MakeFunctionBody _ xs) = functions_stmts xs
  functions_function_body (tree.EnteredBody _ body) = functions_function_body body

  pub functions_param : Param → List Code
  functions_param (tree.MakeParam _ _ e) = functions_expr_if e

  pub functions_declarator : Declarator → List Code
  functions_declarator (tree.MakeDeclarator _ _ e) = functions_expr_if e

  pub functions_case : Case → List Code
  functions_case (tree.MakeCase _ e xs) = functions_expr_if e ++ functions_stmts xs
  functions_case (tree.EnteredCase _ x) = functions_case x

  pub functions_catch : Catch → List Code
  functions_catch (tree.MakeCatch _ xs) = functions_stmts xs

  pub functions_expr_if : MaybeExpr → List Code
  functions_expr_if tree.none_expr = []
  functions_expr_if (tree.some_expr e) = functions_expr e

  pub functions_stmt_if : MaybeStmt → List Code
  functions_stmt_if tree.none_stmt = []
  functions_stmt_if (tree.some_stmt x) = functions_stmt x
  functions_stmt_if (tree.entered_none _) = []

  pub functions_exprs : Exprs → List Code
  functions_exprs tree.no_expr = []
  functions_exprs (tree.more_expr x xs) = functions_expr x ++ functions_exprs xs

  pub functions_template_parts : TemplateParts → List Code
  functions_template_parts tree.no_template_part = []
  functions_template_parts (tree.more_template_part x xs) = functions_template_part x ++ functions_template_parts xs

  pub functions_properties : Properties → List Code
  functions_properties tree.no_property = []
  functions_properties (tree.more_property x xs) = functions_property x ++ functions_properties xs

  pub functions_params : Params → List Code
  functions_params tree.no_param = []
  functions_params (tree.more_param x xs) = functions_param x ++ functions_params xs

  pub functions_stmts : Stmts → List Code
  functions_stmts tree.no_stmt = []
  functions_stmts (tree.more_stmt x xs) = functions_stmt x ++ functions_stmts xs

  pub functions_declarators : Declarators → List Code
  functions_declarators tree.no_declarator = []
  functions_declarators (tree.more_declarator x xs) = functions_declarator x ++ functions_declarators xs

  pub functions_cases : Cases → List Code
  functions_cases tree.no_case = []
  functions_cases (tree.more_case x xs) = functions_case x ++ functions_cases xs

abbrev pub functions_file : File → List Code
functions_file (tree.MakeFile body comments) = functions_stmts body

-- so many numbers from one on
abbrev pub from_code : ℕ → ℕ → List ℕ
from_code first zero = []
from_code first (suc n) = first ∷ from_code (suc first) n

-- the functions of a file are numbered in this order, from the number given, with none left out
abbrev pub NumbersFunctions : Type 0
NumbersFunctions = (m : Marking) (tree : File) (k : Numbers) → (n : ℕ) × ((link_file m tree k).next.code ≡ k.code + n)
    × (map number_of (functions_file (link_file m tree k).tree) ≡ from_code k.code n)
