-- How much higher a tree is with its parentheses: one pair at most stands round each expression, so it is at most twice as high.
use Rattle.std.proofs.Common.{ℕ, ◌+◌, ◌*◌, ◌≤◌, Bool, true, false, arith}
use Rattle.std.specs.Prelude.{nat_lt, ◌||◌, ◌&&◌}
use Rattle.js_terms.specs.declared.operators.LogicalOperator.{LogicalOperator}
use Rattle.js_terms.specs.declared.operators.LogicalOperator.TheVariants as logic
use Rattle.js_tree.specs.Plain.{Expr, IdentifierReference, This, NullLiteral, BooleanLiteral, NumericLiteral, StringLiteral, ArrayLiteral, ObjectLiteral, FunctionExpression, ArrowFunction, RegularExpressionLiteral, TemplateLiteral, Parenthesized, NamedMember, ComputedMember, New, Call, PostfixUpdate, PrefixUpdate, Unary, Binary, Logical, Conditional, Assignment, Comma, Entered}
use Rattle.js_tree.specs.Plain.{Stmt, Directive, Block, VariableDeclaration, Empty, Expression, If, DoWhile, While, For, ForIn, ForOf, Continue, Break, Return, Switch, Labelled, Throw, TryCatch, TryFinally, TryCatchFinally, Debugger, FunctionDeclaration, EnteredStmt}
use Rattle.js_tree.specs.Plain.{Property, Shorthand, KeyValue, Method, PropertyKey, NameKey, StringKey, NumberKey, ComputedKey, ConciseBody, ExpressionBody, BlockBody, ForInit, NoInit, InitDeclaration, InitExpression, ForTarget, TargetDeclaration, TargetExpression}
use Rattle.js_tree.specs.Plain.{MakeTemplatePart, Function, MakeFunction, FunctionBody, MakeFunctionBody, EnteredBody, MakeParam, MakeDeclarator, Case, MakeCase, EnteredCase, Catch, MakeCatch, BindingIdentifier}
use Rattle.js_tree.specs.Plain.{none_pattern, some_pattern, MaybeExpr, none_expr, some_expr, MaybeStmt, none_stmt, some_stmt, entered_none}
use Rattle.js_tree.specs.Plain.{TemplateParts, no_template_part, more_template_part, Properties, no_property, more_property, Params, no_param, more_param, Exprs, no_expr, more_expr, Stmts, no_stmt, more_stmt, Declarators, no_declarator, more_declarator, Cases, no_case, more_case, File, MakeFile}
use Rattle.js_tree.specs.Height.{height_expr, height_stmt, height_property, height_property_key, height_concise_body, height_for_init, height_for_target, height_function, height_function_body, height_case, height_catch, height_expr_if, height_stmt_if, height_template_parts, height_properties, height_params, height_exprs, height_stmts, height_declarators, height_cases, height_file}
use Rattle.js_reading.specs.Level.{assignment, logical_level, left_level, right_level}
use Rattle.js_reading.specs.Productions.{call, member, logical_right}
use Rattle.js_reading.specs.Makes.{bare_in, is_and_or}
use Rattle.js_layout.specs.Tokens.{expr_tokens}
use Rattle.js_layout.specs.Neat.{level, first_is, is_brace, is_function, is_string, paired, placed, left_operand, as_statement, as_body, as_initializer, neat_expr, neat_exprs, neat_parts, neat_properties, neat_property, neat_key, neat_function, neat_body, neat_concise, neat_params, neat_initializer, neat_declarators, neat_maybe, neat_stmt, neat_stmts, neat_else, neat_init, neat_target, neat_cases, neat_case, neat_catch, neat_file}

-- ---- pairs

-- a pair counts one
pub height_paired : (b : Bool) (e x : Expr) → height_expr (paired b e x) ≤ height_expr x + 1
height_paired false e x = omega arith
height_paired true (Parenthesized l e) x = omega arith
height_paired true e x = omega arith

pub height_placed : (n : ℕ) (e x : Expr) → height_expr (placed n e x) ≤ height_expr x + 1
height_placed n e x = height_paired (nat_lt (level e) n) e x

pub height_left : (o : LogicalOperator) (e x : Expr) → height_expr (left_operand o e x) ≤ height_expr x + 1
height_left logic.Coalesce e x = height_paired (nat_lt (level e) (logical_level logic.Coalesce) || is_and_or x) e x
height_left logic.And e x = height_placed (logical_level logic.And) e x
height_left logic.Or e x = height_placed (logical_level logic.Or) e x

pub height_as_statement : (e x : Expr) → height_expr (as_statement e x) ≤ height_expr x + 1
height_as_statement e x = height_paired (first_is is_brace (expr_tokens x) || first_is is_function (expr_tokens x) || is_string x) e x

pub height_as_body : (e x : Expr) → height_expr (as_body e x) ≤ height_expr x + 1
height_as_body e x = height_paired (nat_lt (level e) assignment || first_is is_brace (expr_tokens x)) e x

pub height_as_initializer : (head : Bool) (e x : Expr) → height_expr (as_initializer head e x) ≤ height_expr x + 1
height_as_initializer head e x = height_paired (nat_lt (level e) assignment || (head && bare_in x)) e x

-- ---- the tree: what may stand in a pair is less than twice as high

mutual
  pub raised_expr : (e : Expr) → height_expr (neat_expr e) + 1 ≤ 2 * height_expr e
  raised_expr (IdentifierReference l w) = omega arith
  raised_expr (This l) = omega arith
  raised_expr (NullLiteral l) = omega arith
  raised_expr (BooleanLiteral l b) = omega arith
  raised_expr (NumericLiteral l w) = omega arith
  raised_expr (StringLiteral l s) = omega arith
  raised_expr (ArrayLiteral l xs) = omega (arith, raised_exprs xs)
  raised_expr (ObjectLiteral l ps) = omega (arith, raised_properties ps)
  raised_expr (FunctionExpression l n f) = raised_function f
  raised_expr (ArrowFunction l n ps body) = omega (arith, raised_params ps, raised_concise body)
  raised_expr (RegularExpressionLiteral l body flags) = omega arith
  raised_expr (TemplateLiteral l s parts) = omega (arith, raised_parts parts)
  raised_expr (Parenthesized l e) = omega (arith, raised_expr e)
  raised_expr (NamedMember l o w) = omega (arith, height_placed call o (neat_expr o), raised_expr o)
  raised_expr (ComputedMember l o k) = omega (arith, height_placed call o (neat_expr o), raised_expr o, raised_expr k)
  raised_expr (New l c xs) = omega (arith, height_placed member c (neat_expr c), raised_expr c, raised_exprs xs)
  raised_expr (Call l f xs) = omega (arith, height_placed call f (neat_expr f), raised_expr f, raised_exprs xs)
  raised_expr (PostfixUpdate l o e) = omega (arith, height_placed call e (neat_expr e), raised_expr e)
  raised_expr (PrefixUpdate l o e) = omega (arith, height_placed 16 e (neat_expr e), raised_expr e)
  raised_expr (Unary l o e) = omega (arith, height_placed 16 e (neat_expr e), raised_expr e)
  raised_expr (Binary l o x y) = omega (arith, height_placed (left_level o) x (neat_expr x), raised_expr x, height_placed (right_level o) y (neat_expr y), raised_expr y)
  raised_expr (Logical l o x y) = omega (arith, height_left o x (neat_expr x), raised_expr x, height_placed (logical_right o) y (neat_expr y), raised_expr y)
  raised_expr (Conditional l c x y) = omega (arith, height_placed 4 c (neat_expr c), raised_expr c, height_placed assignment x (neat_expr x), raised_expr x, height_placed assignment y (neat_expr y), raised_expr y)
  raised_expr (Assignment l o x y) = omega (arith, height_placed call x (neat_expr x), raised_expr x, height_placed assignment y (neat_expr y), raised_expr y)
  raised_expr (Comma l x y) = omega (arith, raised_expr x, height_placed assignment y (neat_expr y), raised_expr y)
  raised_expr (Entered m e) = raised_expr e

  pub raised_exprs : (es : Exprs) → height_exprs (neat_exprs es) ≤ 2 * height_exprs es
  raised_exprs no_expr = omega arith
  raised_exprs (more_expr e es) = omega (arith, height_placed assignment e (neat_expr e), raised_expr e, raised_exprs es)

  pub raised_parts : (ps : TemplateParts) → height_template_parts (neat_parts ps) ≤ 2 * height_template_parts ps
  raised_parts no_template_part = omega arith
  raised_parts (more_template_part (MakeTemplatePart e s) ps) = omega (arith, raised_expr e, raised_parts ps)

  pub raised_properties : (ps : Properties) → height_properties (neat_properties ps) ≤ 2 * height_properties ps
  raised_properties no_property = omega arith
  raised_properties (more_property p ps) = omega (arith, raised_property p, raised_properties ps)

  pub raised_property : (p : Property) → height_property (neat_property p) + 1 ≤ 2 * height_property p
  raised_property (Shorthand l w) = omega arith
  raised_property (KeyValue l k e) = omega (arith, raised_key k, height_placed assignment e (neat_expr e), raised_expr e)
  raised_property (Method l k f) = omega (arith, raised_key k, raised_function f)

  pub raised_key : (k : PropertyKey) → height_property_key (neat_key k) ≤ 2 * height_property_key k
  raised_key (NameKey w) = omega arith
  raised_key (StringKey s) = omega arith
  raised_key (NumberKey w) = omega arith
  raised_key (ComputedKey e) = omega (arith, height_placed assignment e (neat_expr e), raised_expr e)

  pub raised_function : (f : Function) → height_function (neat_function f) + 1 ≤ 2 * height_function f
  raised_function (MakeFunction n ps body) = omega (arith, raised_params ps, raised_body body)

  pub raised_body : (body : FunctionBody) → height_function_body (neat_body body) ≤ 2 * height_function_body body
  raised_body (MakeFunctionBody l ss) = raised_stmts ss
  raised_body (EnteredBody m body) = raised_body body

  pub raised_concise : (body : ConciseBody) → height_concise_body (neat_concise body) ≤ 2 * height_concise_body body
  raised_concise (ExpressionBody e) = omega (arith, height_as_body e (neat_expr e), raised_expr e)
  raised_concise (BlockBody body) = raised_body body

  pub raised_params : (ps : Params) → height_params (neat_params ps) ≤ 2 * height_params ps
  raised_params no_param = omega arith
  raised_params (more_param (MakeParam l (BindingIdentifier m w) none_expr) ps) = omega (arith, raised_params ps)
  raised_params (more_param (MakeParam l (BindingIdentifier m w) (some_expr e)) ps) = omega (arith, height_as_initializer false e (neat_expr e), raised_expr e, raised_params ps)

  pub raised_initializer : (head : Bool) (e : MaybeExpr) → height_expr_if (neat_initializer head e) ≤ 2 * height_expr_if e
  raised_initializer head none_expr = omega arith
  raised_initializer head (some_expr e) = omega (arith, height_as_initializer head e (neat_expr e), raised_expr e)

  pub raised_declarators : (head : Bool) (ds : Declarators) → height_declarators (neat_declarators head ds) ≤ 2 * height_declarators ds
  raised_declarators head no_declarator = omega arith
  raised_declarators head (more_declarator (MakeDeclarator l (BindingIdentifier m w) e) ds) = omega (arith, raised_initializer head e, raised_declarators head ds)

  pub raised_maybe : (e : MaybeExpr) → height_expr_if (neat_maybe e) ≤ 2 * height_expr_if e
  raised_maybe none_expr = omega arith
  raised_maybe (some_expr e) = omega (arith, raised_expr e)

  pub raised_stmt : (s : Stmt) → height_stmt (neat_stmt s) + 1 ≤ 2 * height_stmt s
  raised_stmt (Directive l s) = omega arith
  raised_stmt (Block l ss) = omega (arith, raised_stmts ss)
  raised_stmt (VariableDeclaration l k ds) = omega (arith, raised_declarators false ds)
  raised_stmt (Empty l) = omega arith
  raised_stmt (Expression l e) = omega (arith, height_as_statement e (neat_expr e), raised_expr e)
  raised_stmt (If l c s r) = omega (arith, raised_expr c, raised_stmt s, raised_else r)
  raised_stmt (DoWhile l s c) = omega (arith, raised_stmt s, raised_expr c)
  raised_stmt (While l c s) = omega (arith, raised_expr c, raised_stmt s)
  raised_stmt (For l x y z s) = omega (arith, raised_init x, raised_maybe y, raised_maybe z, raised_stmt s)
  raised_stmt (ForIn l x e s) = omega (arith, raised_target x, raised_expr e, raised_stmt s)
  raised_stmt (ForOf l x e s) = omega (arith, raised_target x, height_placed assignment e (neat_expr e), raised_expr e, raised_stmt s)
  raised_stmt (Continue l x) = omega arith
  raised_stmt (Break l x) = omega arith
  raised_stmt (Return l e) = omega (arith, raised_maybe e)
  raised_stmt (Switch l e cs) = omega (arith, raised_expr e, raised_cases cs)
  raised_stmt (Labelled l x s) = omega (arith, raised_stmt s)
  raised_stmt (Throw l e) = omega (arith, raised_expr e)
  raised_stmt (TryCatch l b c) = omega (arith, raised_stmts b, raised_catch c)
  raised_stmt (TryFinally l b f) = omega (arith, raised_stmts b, raised_stmts f)
  raised_stmt (TryCatchFinally l b c f) = omega (arith, raised_stmts b, raised_catch c, raised_stmts f)
  raised_stmt (Debugger l) = omega arith
  raised_stmt (FunctionDeclaration l x f) = raised_function f
  raised_stmt (EnteredStmt m s) = raised_stmt s

  pub raised_stmts : (ss : Stmts) → height_stmts (neat_stmts ss) ≤ 2 * height_stmts ss
  raised_stmts no_stmt = omega arith
  raised_stmts (more_stmt s ss) = omega (arith, raised_stmt s, raised_stmts ss)

  pub raised_else : (r : MaybeStmt) → height_stmt_if (neat_else r) ≤ 2 * height_stmt_if r
  raised_else none_stmt = omega arith
  raised_else (some_stmt s) = omega (arith, raised_stmt s)
  raised_else (entered_none m) = omega arith

  pub raised_init : (x : ForInit) → height_for_init (neat_init x) ≤ 2 * height_for_init x
  raised_init NoInit = omega arith
  raised_init (InitDeclaration k ds) = raised_declarators true ds
  raised_init (InitExpression e) = omega (arith, height_paired (bare_in (neat_expr e)) e (neat_expr e), raised_expr e)

  pub raised_target : (x : ForTarget) → height_for_target (neat_target x) ≤ 2 * height_for_target x
  raised_target (TargetDeclaration k x) = omega arith
  raised_target (TargetExpression e) = omega (arith, raised_expr e)

  pub raised_cases : (cs : Cases) → height_cases (neat_cases cs) ≤ 2 * height_cases cs
  raised_cases no_case = omega arith
  raised_cases (more_case c cs) = omega (arith, raised_case c, raised_cases cs)

  pub raised_case : (c : Case) → height_case (neat_case c) + 1 ≤ 2 * height_case c
  raised_case (MakeCase l e ss) = omega (arith, raised_maybe e, raised_stmts ss)
  raised_case (EnteredCase m c) = raised_case c

  pub raised_catch : (c : Catch) → height_catch (neat_catch c) ≤ 2 * height_catch c
  raised_catch (MakeCatch none_pattern ss) = omega (arith, raised_stmts ss)
  raised_catch (MakeCatch (some_pattern (BindingIdentifier m w)) ss) = omega (arith, raised_stmts ss)

-- a file that has its parentheses is at most twice as high
pub raised_file : (file : File) → height_file (neat_file file) ≤ 2 * height_file file
raised_file (MakeFile ss comments) = raised_stmts ss
