-- The tree with the pairs of parentheses with which it is printed: those that a part's place asks for, and no others.
use Rattle.std.specs.Prelude.{ℕ, ◌==◌, Bool, true, false, ◌&&◌, ◌||◌, List, [], ◌∷◌, None, codes, if◌then◌else◌, nat_lt}
use Rattle.std.specs.Str.{bytes_eq}
use Rattle.js_terms.specs.declared.operators.LogicalOperator.{LogicalOperator}
use Rattle.js_terms.specs.declared.operators.LogicalOperator.TheVariants as logic
use Rattle.js_tree.specs.Plain.{Expr, StringLiteral, ArrayLiteral, ObjectLiteral, FunctionExpression, ArrowFunction, TemplateLiteral, Parenthesized, NamedMember, ComputedMember, New, Call, PostfixUpdate, PrefixUpdate, Unary, Binary, Logical, Conditional, Assignment, Comma, Entered}
use Rattle.js_tree.specs.Plain.{Stmt, Block, VariableDeclaration, Expression, If, DoWhile, While, For, ForIn, ForOf, Return, Switch, Labelled, Throw, TryCatch, TryFinally, TryCatchFinally, FunctionDeclaration, EnteredStmt}
use Rattle.js_tree.specs.Plain.{Property, Shorthand, KeyValue, Method, PropertyKey, ComputedKey, ConciseBody, ExpressionBody, BlockBody, ForInit, NoInit, InitDeclaration, InitExpression, ForTarget, TargetDeclaration, TargetExpression}
use Rattle.js_tree.specs.Plain.{MakeTemplatePart, Function, MakeFunction, FunctionBody, MakeFunctionBody, EnteredBody, MakeParam, MakeDeclarator, Case, MakeCase, EnteredCase, Catch, MakeCatch}
use Rattle.js_tree.specs.Plain.{MaybeExpr, none_expr, some_expr, MaybeStmt, some_stmt}
use Rattle.js_tree.specs.Plain.{TemplateParts, no_template_part, more_template_part, Properties, no_property, more_property, Params, no_param, more_param, Exprs, no_expr, more_expr, Stmts, no_stmt, more_stmt, Declarators, no_declarator, more_declarator, Cases, no_case, more_case, File, MakeFile}
use Rattle.js_text.specs.declared.punctuator.Punctuator.TheVariants as P
use Rattle.js_text.specs.Token.{Kind, Word}
use Rattle.js_text.specs.Token as T
use Rattle.js_reading.specs.Level.{any, assignment, binary_level, left_level, right_level, logical_level}
use Rattle.js_reading.specs.Productions.{primary, member, call, logical_right}
use Rattle.js_reading.specs.Makes.{bare_in, is_and_or}
use Rattle.js_spelling.specs.Written.{Written}
use Rattle.js_layout.specs.Tokens.{expr_tokens}

-- ---- how tightly an expression binds once its parts have their parentheses (13)

-- a member of what ends with a call is like a call; that of what stands in parentheses is not
abbrev pub member_level : ℕ → ℕ
member_level i = if i == call then call else member

-- the pairs of the tree are looked through: they are put anew
abbrev pub level : Expr → ℕ
level (Parenthesized l e) = level e
level (NamedMember l o w) = member_level (level o)
level (ComputedMember l o k) = member_level (level o)
level (New l c xs) = member
level (Call l f xs) = call
level (PostfixUpdate l o e) = 17
level (PrefixUpdate l o e) = 17
level (Unary l o e) = 16
level (Binary l o x y) = binary_level o
level (Logical l o x y) = logical_level o
level (Conditional l c x y) = 3
level (Assignment l o x y) = assignment
level (ArrowFunction l n ps body) = assignment
level (Comma l x y) = any
level (Entered m e) = level e
level e = primary

-- ---- what an expression begins with

abbrev pub first_is : (Kind → Bool) → List Written → Bool
first_is test [] = false
first_is test (t ∷ ts) = test t.kind

abbrev pub is_brace : Kind → Bool
is_brace (T.Punctuator P.OpenBrace) = true
is_brace k = false

abbrev pub is_function : Kind → Bool
is_function (Word w) = bytes_eq w (codes "function")
is_function k = false

abbrev pub is_string : Expr → Bool
is_string (StringLiteral l s) = true
is_string e = false

-- ---- pairs

-- an expression that has its parentheses inside, in a pair or not: in the tree's own, where it has one
abbrev pub paired : Bool → Expr → Expr → Expr
paired false e x = x
paired true (Parenthesized l e) x = Parenthesized l x
paired true e x = Parenthesized None x

-- where a place asks for this level, what is looser stands in a pair
abbrev pub placed : ℕ → Expr → Expr → Expr
placed n e x = paired (nat_lt (level e) n) e x

-- left of `??`, also `&&` and `||` (13.13)
abbrev pub left_operand : LogicalOperator → Expr → Expr → Expr
left_operand logic.Coalesce e x = paired (nat_lt (level e) (logical_level logic.Coalesce) || is_and_or x) e x
left_operand o e x = placed (logical_level o) e x

-- an expression statement begins with neither `{` nor `function`, and is no string, which would be a directive (14.5, 11.2.1)
abbrev pub as_statement : Expr → Expr → Expr
as_statement e x = paired (first_is is_brace (expr_tokens x) || first_is is_function (expr_tokens x) || is_string x) e x

-- an arrow's body that begins with `{` would be one in braces (15.3)
abbrev pub as_body : Expr → Expr → Expr
as_body e x = paired (nat_lt (level e) assignment || first_is is_brace (expr_tokens x)) e x

-- an initializer, in the first part of a `for` or elsewhere: there `in` isn't bare (14.7.4)
abbrev pub as_initializer : Bool → Expr → Expr → Expr
as_initializer head e x = paired (nat_lt (level e) assignment || (head && bare_in x)) e x

-- ---- the tree

abbrev mutual
  pub neat_expr : Expr → Expr
  neat_expr (ArrayLiteral l xs) = ArrayLiteral l (neat_exprs xs)
  neat_expr (ObjectLiteral l ps) = ObjectLiteral l (neat_properties ps)
  neat_expr (FunctionExpression l n f) = FunctionExpression l n (neat_function f)
  neat_expr (ArrowFunction l n ps body) = ArrowFunction l n (neat_params ps) (neat_concise body)
  neat_expr (TemplateLiteral l s parts) = TemplateLiteral l s (neat_parts parts)
  neat_expr (Parenthesized l e) = neat_expr e
  neat_expr (NamedMember l o w) = NamedMember l (placed call o (neat_expr o)) w
  neat_expr (ComputedMember l o k) = ComputedMember l (placed call o (neat_expr o)) (neat_expr k)
  neat_expr (New l c xs) = New l (placed member c (neat_expr c)) (neat_exprs xs)
  neat_expr (Call l f xs) = Call l (placed call f (neat_expr f)) (neat_exprs xs)
  neat_expr (PostfixUpdate l o e) = PostfixUpdate l o (placed call e (neat_expr e))
  neat_expr (PrefixUpdate l o e) = PrefixUpdate l o (placed 16 e (neat_expr e))
  neat_expr (Unary l o e) = Unary l o (placed 16 e (neat_expr e))
  neat_expr (Binary l o x y) = Binary l o (placed (left_level o) x (neat_expr x)) (placed (right_level o) y (neat_expr y))
  neat_expr (Logical l o x y) = Logical l o (left_operand o x (neat_expr x)) (placed (logical_right o) y (neat_expr y))
  neat_expr (Conditional l c x y) = Conditional l (placed 4 c (neat_expr c)) (placed assignment x (neat_expr x)) (placed assignment y (neat_expr y))
  neat_expr (Assignment l o x y) = Assignment l o (placed call x (neat_expr x)) (placed assignment y (neat_expr y))
  neat_expr (Comma l x y) = Comma l (neat_expr x) (placed assignment y (neat_expr y))
  neat_expr (Entered m e) = Entered m (neat_expr e)
  neat_expr e = e

  pub neat_exprs : Exprs → Exprs
  neat_exprs no_expr = no_expr
  neat_exprs (more_expr e es) = more_expr (placed assignment e (neat_expr e)) (neat_exprs es)

  pub neat_parts : TemplateParts → TemplateParts
  neat_parts no_template_part = no_template_part
  neat_parts (more_template_part (MakeTemplatePart e s) ps) = more_template_part (MakeTemplatePart (neat_expr e) s) (neat_parts ps)

  pub neat_properties : Properties → Properties
  neat_properties no_property = no_property
  neat_properties (more_property p ps) = more_property (neat_property p) (neat_properties ps)

  pub neat_property : Property → Property
  neat_property (Shorthand l w) = Shorthand l w
  neat_property (KeyValue l k e) = KeyValue l (neat_key k) (placed assignment e (neat_expr e))
  neat_property (Method l k f) = Method l (neat_key k) (neat_function f)

  pub neat_key : PropertyKey → PropertyKey
  neat_key (ComputedKey e) = ComputedKey (placed assignment e (neat_expr e))
  neat_key k = k

  pub neat_function : Function → Function
  neat_function (MakeFunction n ps body) = MakeFunction n (neat_params ps) (neat_body body)

  pub neat_body : FunctionBody → FunctionBody
  neat_body (MakeFunctionBody l ss) = MakeFunctionBody l (neat_stmts ss)
  neat_body (EnteredBody m body) = EnteredBody m (neat_body body)

  pub neat_concise : ConciseBody → ConciseBody
  neat_concise (ExpressionBody e) = ExpressionBody (as_body e (neat_expr e))
  neat_concise (BlockBody body) = BlockBody (neat_body body)

  pub neat_params : Params → Params
  neat_params no_param = no_param
  neat_params (more_param (MakeParam l x e) ps) = more_param (MakeParam l x (neat_initializer false e)) (neat_params ps)

  pub neat_initializer : Bool → MaybeExpr → MaybeExpr
  neat_initializer head none_expr = none_expr
  neat_initializer head (some_expr e) = some_expr (as_initializer head e (neat_expr e))

  pub neat_declarators : Bool → Declarators → Declarators
  neat_declarators head no_declarator = no_declarator
  neat_declarators head (more_declarator (MakeDeclarator l x e) ds) = more_declarator (MakeDeclarator l x (neat_initializer head e)) (neat_declarators head ds)

  pub neat_maybe : MaybeExpr → MaybeExpr
  neat_maybe none_expr = none_expr
  neat_maybe (some_expr e) = some_expr (neat_expr e)

  pub neat_stmt : Stmt → Stmt
  neat_stmt (Block l ss) = Block l (neat_stmts ss)
  neat_stmt (VariableDeclaration l k ds) = VariableDeclaration l k (neat_declarators false ds)
  neat_stmt (Expression l e) = Expression l (as_statement e (neat_expr e))
  neat_stmt (If l c s r) = If l (neat_expr c) (neat_stmt s) (neat_else r)
  neat_stmt (DoWhile l s c) = DoWhile l (neat_stmt s) (neat_expr c)
  neat_stmt (While l c s) = While l (neat_expr c) (neat_stmt s)
  neat_stmt (For l x y z s) = For l (neat_init x) (neat_maybe y) (neat_maybe z) (neat_stmt s)
  neat_stmt (ForIn l x e s) = ForIn l (neat_target x) (neat_expr e) (neat_stmt s)
  neat_stmt (ForOf l x e s) = ForOf l (neat_target x) (placed assignment e (neat_expr e)) (neat_stmt s)
  neat_stmt (Return l e) = Return l (neat_maybe e)
  neat_stmt (Switch l e cs) = Switch l (neat_expr e) (neat_cases cs)
  neat_stmt (Labelled l x s) = Labelled l x (neat_stmt s)
  neat_stmt (Throw l e) = Throw l (neat_expr e)
  neat_stmt (TryCatch l b c) = TryCatch l (neat_stmts b) (neat_catch c)
  neat_stmt (TryFinally l b f) = TryFinally l (neat_stmts b) (neat_stmts f)
  neat_stmt (TryCatchFinally l b c f) = TryCatchFinally l (neat_stmts b) (neat_catch c) (neat_stmts f)
  neat_stmt (FunctionDeclaration l x f) = FunctionDeclaration l x (neat_function f)
  neat_stmt (EnteredStmt m s) = EnteredStmt m (neat_stmt s)
  neat_stmt s = s

  pub neat_stmts : Stmts → Stmts
  neat_stmts no_stmt = no_stmt
  neat_stmts (more_stmt s ss) = more_stmt (neat_stmt s) (neat_stmts ss)

  pub neat_else : MaybeStmt → MaybeStmt
  neat_else (some_stmt s) = some_stmt (neat_stmt s)
  neat_else r = r

  pub neat_init : ForInit → ForInit
  neat_init NoInit = NoInit
  neat_init (InitDeclaration k ds) = InitDeclaration k (neat_declarators true ds)
  neat_init (InitExpression e) = InitExpression (paired (bare_in (neat_expr e)) e (neat_expr e))

  pub neat_target : ForTarget → ForTarget
  neat_target (TargetDeclaration k x) = TargetDeclaration k x
  neat_target (TargetExpression e) = TargetExpression (neat_expr e)

  pub neat_cases : Cases → Cases
  neat_cases no_case = no_case
  neat_cases (more_case c cs) = more_case (neat_case c) (neat_cases cs)

  pub neat_case : Case → Case
  neat_case (MakeCase l e ss) = MakeCase l (neat_maybe e) (neat_stmts ss)
  neat_case (EnteredCase m c) = EnteredCase m (neat_case c)

  pub neat_catch : Catch → Catch
  neat_catch (MakeCatch x ss) = MakeCatch x (neat_stmts ss)

abbrev pub neat_file : File → File
neat_file (MakeFile ss comments) = MakeFile (neat_stmts ss) comments
