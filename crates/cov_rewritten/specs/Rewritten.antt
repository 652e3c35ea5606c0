-- The tree of a counted file with its counters: each mark of the linked tree becomes the code of its counter, and nothing else changes. A
-- node is rewritten without the marks before it; these go to where its place says. What is inserted has no place.
use Rattle.std.specs.Prelude.{ℕ, Bool, true, false, List, [], ◌∷◌, ◌++◌, Option, None, if◌then◌else◌}
use Rattle.js_terms.specs.declared.place.Loc.{Loc}
use Rattle.js_terms.specs.Mark.{Mark}
use Rattle.js_tree.specs.Plain as tree
use Rattle.js_tree.specs.Plain.{Expr, Stmt, Property, PropertyKey, ConciseBody, ForInit, ForTarget, TemplatePart, Function, FunctionBody, Param, Declarator, Case, Catch, Pattern, MaybeExpr, MaybeStmt, Exprs, TemplateParts, Properties, Params, Stmts, Declarators, Cases, File}
use Rattle.cov_rewritten.specs.Counters.{after_counter, with_name}

-- ---- marks

-- those before a node
abbrev pub expr_marks : Expr → List Mark
expr_marks (tree.Entered mark e) = mark ∷ expr_marks e
expr_marks e = []

abbrev pub stmt_marks : Stmt → List Mark
stmt_marks (tree.EnteredStmt mark x) = mark ∷ stmt_marks x
stmt_marks x = []

abbrev pub arm_marks : MaybeStmt → List Mark
arm_marks tree.none_stmt = []
arm_marks (tree.some_stmt x) = stmt_marks x
arm_marks (tree.entered_none mark) = mark ∷ []

abbrev pub is_any : List Mark → Bool
is_any [] = false
is_any (mark ∷ marks) = true

-- ---- functions without a name of their own (8.4.5), which get one where they are an initializer or a default

abbrev pub is_anonymous : Expr → Bool
is_anonymous (tree.FunctionExpression _ None _) = true
is_anonymous (tree.ArrowFunction _ _ _ _) = true
is_anonymous (tree.Parenthesized _ e) = is_anonymous e
is_anonymous (tree.Entered _ e) = is_anonymous e
is_anonymous e = false

abbrev pub bound_name : Pattern → List ℕ
bound_name (tree.BindingIdentifier _ name) = name

-- the marks of the first initializer of a declaration, where it is an anonymous function: they go before the declaration, where this
-- stands in a file, a function's body or a block of the source (`home`)
abbrev pub of_function : Bool → Expr → List Mark
of_function false e = []
of_function true e = expr_marks e

abbrev pub first_marks : Declarators → List Mark
first_marks (tree.more_declarator (tree.MakeDeclarator _ _ (tree.some_expr e)) _) = of_function (is_anonymous e) e
first_marks declarators = []

abbrev pub hoisted_marks : Bool → Stmt → List Mark
hoisted_marks home (tree.VariableDeclaration _ _ declarators) = if home then first_marks declarators else []
hoisted_marks home (tree.EnteredStmt _ x) = hoisted_marks home x
hoisted_marks home x = []

-- ---- lists

-- statements before statements
abbrev pub joined : Stmts → Stmts → Stmts
joined tree.no_stmt ys = ys
joined (tree.more_stmt x xs) ys = tree.more_stmt x (joined xs ys)

-- statements after the directives with which a body begins
abbrev pub after_directives : Stmts → Stmts → Stmts
after_directives inserted (tree.more_stmt (tree.Directive loc spelled) xs) = tree.more_stmt (tree.Directive loc spelled) (after_directives inserted xs)
after_directives inserted xs = joined inserted xs

-- a block's statements, and those of the block that another statement becomes
abbrev pub block_place : Stmt → Option Loc
block_place (tree.Block loc xs) = loc
block_place x = None

abbrev pub inside : Stmt → Stmts
inside (tree.Block loc xs) = xs
inside x = tree.more_stmt x tree.no_stmt

-- ---- where counters stand

module _ (counter : Mark → Expr) where
  -- statements that count
  abbrev pub counts : List Mark → Stmts
  counts [] = tree.no_stmt
  counts (mark ∷ marks) = tree.more_stmt (tree.Expression None (counter mark)) (counts marks)

  -- a block that begins by counting
  abbrev pub in_block : List Mark → Stmt → Stmt
  in_block marks x = tree.Block (block_place x) (joined (counts marks) (inside x))

  -- a loop's body: a block, where it counts
  abbrev pub looped : List Mark → Stmt → Stmt
  looped [] x = x
  looped (mark ∷ marks) x = in_block (mark ∷ marks) x

  -- an arm of an `if`: a block, where one of the two counts
  abbrev pub arm : Bool → List Mark → Stmt → Stmt
  arm false marks x = x
  arm true marks x = in_block marks x

  -- a value that is counted: an initializer, a default, an arm of a conditional, a leaf of a chain of logical operators
  abbrev pub counted : List Mark → Expr → Expr
  counted [] e = e
  counted (mark ∷ marks) e = after_counter (counter mark) (counted marks e)

  -- an initializer or a default, which gives its name to an anonymous function
  abbrev pub held : Bool → List ℕ → List Mark → Expr → Expr
  held anonymous f [] e = e
  held false f (mark ∷ marks) e = counted (mark ∷ marks) e
  held true f (mark ∷ marks) e = counted (mark ∷ marks) (with_name f e)

  -- one whose marks may go before the declaration
  abbrev pub initial : Bool → Bool → List ℕ → List Mark → Expr → Expr
  initial false anonymous f marks e = held anonymous f marks e
  initial true false f marks e = held false f marks e
  initial true true f marks e = e

  -- an arrow's body, which is a block where it counts: the function, the expression, and then the expression returned
  abbrev pub concise : List Mark → Expr → ConciseBody
  concise [] e = tree.ExpressionBody e
  concise (mark ∷ marks) e = tree.BlockBody (tree.MakeFunctionBody None (joined (counts (mark ∷ marks)) (tree.more_stmt (tree.Return None (tree.some_expr e)) tree.no_stmt)))

  -- a function's body counts after its directives, a clause of a `switch` first
  abbrev pub begun_body : Mark → FunctionBody → FunctionBody
  begun_body mark (tree.MakeFunctionBody loc xs) = tree.MakeFunctionBody loc (after_directives (counts (mark ∷ [])) xs)
  begun_body mark (tree.EnteredBody other body) = tree.EnteredBody other (begun_body mark body)

  abbrev pub begun_case : Mark → Case → Case
  begun_case mark (tree.MakeCase loc e xs) = tree.MakeCase loc e (joined (counts (mark ∷ [])) xs)
  begun_case mark (tree.EnteredCase other x) = tree.EnteredCase other (begun_case mark x)

  -- ---- the forms, with the number that a function has

  module _ (code : ℕ → ℕ) where
    abbrev mutual
      pub rewritten_expr : Expr → Expr
      rewritten_expr (tree.IdentifierReference loc text) = tree.IdentifierReference loc text
      rewritten_expr (tree.This loc) = tree.This loc
      rewritten_expr (tree.NullLiteral loc) = tree.NullLiteral loc
      rewritten_expr (tree.BooleanLiteral loc b) = tree.BooleanLiteral loc b
      rewritten_expr (tree.NumericLiteral loc text) = tree.NumericLiteral loc text
      rewritten_expr (tree.StringLiteral loc spelled) = tree.StringLiteral loc spelled
      rewritten_expr (tree.ArrayLiteral loc es) = tree.ArrayLiteral loc (rewritten_exprs es)
      rewritten_expr (tree.ObjectLiteral loc properties) = tree.ObjectLiteral loc (rewritten_properties properties)
      rewritten_expr (tree.FunctionExpression loc name function) = tree.FunctionExpression loc name (rewritten_function function)
      rewritten_expr (tree.ArrowFunction loc number params body) = tree.ArrowFunction loc (code number) (rewritten_params params) (rewritten_concise_body body)
      rewritten_expr (tree.RegularExpressionLiteral loc text flags) = tree.RegularExpressionLiteral loc text flags
      rewritten_expr (tree.TemplateLiteral loc spelled parts) = tree.TemplateLiteral loc spelled (rewritten_template_parts parts)
      rewritten_expr (tree.Parenthesized loc e) = tree.Parenthesized loc (counted (expr_marks e) (rewritten_expr e))
      rewritten_expr (tree.NamedMember loc e text) = tree.NamedMember loc (rewritten_expr e) text
      rewritten_expr (tree.ComputedMember loc e f) = tree.ComputedMember loc (rewritten_expr e) (rewritten_expr f)
      rewritten_expr (tree.New loc e es) = tree.New loc (rewritten_expr e) (rewritten_exprs es)
      rewritten_expr (tree.Call loc e es) = tree.Call loc (rewritten_expr e) (rewritten_exprs es)
      rewritten_expr (tree.PostfixUpdate loc operator e) = tree.PostfixUpdate loc operator (rewritten_expr e)
      rewritten_expr (tree.PrefixUpdate loc operator e) = tree.PrefixUpdate loc operator (rewritten_expr e)
      rewritten_expr (tree.Unary loc operator e) = tree.Unary loc operator (rewritten_expr e)
      rewritten_expr (tree.Binary loc operator e f) = tree.Binary loc operator (rewritten_expr e) (rewritten_expr f)
      rewritten_expr (tree.Logical loc operator e f) = tree.Logical loc operator (counted (expr_marks e) (rewritten_expr e)) (counted (expr_marks f) (rewritten_expr f))
      rewritten_expr (tree.Conditional loc e f g) = tree.Conditional loc (rewritten_expr e) (counted (expr_marks f) (rewritten_expr f)) (counted (expr_marks g) (rewritten_expr g))
      rewritten_expr (tree.Assignment loc operator e f) = tree.Assignment loc operator (rewritten_expr e) (rewritten_expr f)
      rewritten_expr (tree.Comma loc e f) = tree.Comma loc (rewritten_expr e) (rewritten_expr f)
      rewritten_expr (tree.Entered mark e) = rewritten_expr e

      -- `home` says of a declaration whether it stands in a file, a function's body or a block of the source
      pub rewritten_stmt : Bool → Stmt → Stmt
      rewritten_stmt home (tree.Directive loc spelled) = tree.Directive loc spelled
      rewritten_stmt home (tree.Block loc xs) = tree.Block loc (rewritten_stmts true xs)
      rewritten_stmt home (tree.VariableDeclaration loc kind declarators) = tree.VariableDeclaration loc kind (rewritten_declarators home declarators)
      rewritten_stmt home (tree.Empty loc) = tree.Empty loc
      rewritten_stmt home (tree.Expression loc e) = tree.Expression loc (rewritten_expr e)
      rewritten_stmt home (tree.If loc e x y) = tree.If loc (rewritten_expr e)
          (arm (is_any (stmt_marks x ++ arm_marks y)) (stmt_marks x) (rewritten_stmt false x))
          (rewritten_arm (is_any (stmt_marks x ++ arm_marks y)) y)
      rewritten_stmt home (tree.DoWhile loc x e) = tree.DoWhile loc (looped (stmt_marks x) (rewritten_stmt false x)) (rewritten_expr e)
      rewritten_stmt home (tree.While loc e x) = tree.While loc (rewritten_expr e) (looped (stmt_marks x) (rewritten_stmt false x))
      rewritten_stmt home (tree.For loc init e f x) = tree.For loc (rewritten_for_init init) (rewritten_expr_if e) (rewritten_expr_if f) (looped (stmt_marks x) (rewritten_stmt false x))
      rewritten_stmt home (tree.ForIn loc target e x) = tree.ForIn loc (rewritten_for_target target) (rewritten_expr e) (looped (stmt_marks x) (rewritten_stmt false x))
      rewritten_stmt home (tree.ForOf loc target e x) = tree.ForOf loc (rewritten_for_target target) (rewritten_expr e) (looped (stmt_marks x) (rewritten_stmt false x))
      rewritten_stmt home (tree.Continue loc label) = tree.Continue loc label
      rewritten_stmt home (tree.Break loc label) = tree.Break loc label
      rewritten_stmt home (tree.Return loc e) = tree.Return loc (rewritten_expr_if e)
      rewritten_stmt home (tree.Switch loc e cases) = tree.Switch loc (rewritten_expr e) (rewritten_cases cases)
      rewritten_stmt home (tree.Labelled loc label x) = tree.Labelled loc label (rewritten_stmt false x)
      rewritten_stmt home (tree.Throw loc e) = tree.Throw loc (rewritten_expr e)
      rewritten_stmt home (tree.TryCatch loc xs catch) = tree.TryCatch loc (rewritten_stmts true xs) (rewritten_catch catch)
      rewritten_stmt home (tree.TryFinally loc xs ys) = tree.TryFinally loc (rewritten_stmts true xs) (rewritten_stmts true ys)
      rewritten_stmt home (tree.TryCatchFinally loc xs catch ys) = tree.TryCatchFinally loc (rewritten_stmts true xs) (rewritten_catch catch) (rewritten_stmts true ys)
      rewritten_stmt home (tree.Debugger loc) = tree.Debugger loc
      rewritten_stmt home (tree.FunctionDeclaration loc name function) = tree.FunctionDeclaration loc name (rewritten_function function)
      rewritten_stmt home (tree.EnteredStmt mark x) = rewritten_stmt home x

      -- an arm after `else`: where it is missing and counts, a block that does nothing else
      pub rewritten_arm : Bool → MaybeStmt → MaybeStmt
      rewritten_arm counts_one tree.none_stmt = tree.none_stmt
      rewritten_arm counts_one (tree.some_stmt x) = tree.some_stmt (arm counts_one (stmt_marks x) (rewritten_stmt false x))
      rewritten_arm counts_one (tree.entered_none mark) = tree.some_stmt (tree.Block None (counts (mark ∷ [])))

      pub rewritten_stmts : Bool → Stmts → Stmts
      rewritten_stmts home tree.no_stmt = tree.no_stmt
      rewritten_stmts home (tree.more_stmt x xs) = joined (counts (stmt_marks x ++ hoisted_marks home x)) (tree.more_stmt (rewritten_stmt home x) (rewritten_stmts home xs))

      pub rewritten_property : Property → Property
      rewritten_property (tree.Shorthand loc text) = tree.Shorthand loc text
      rewritten_property (tree.KeyValue loc key e) = tree.KeyValue loc (rewritten_property_key key) (rewritten_expr e)
      rewritten_property (tree.Method loc key function) = tree.Method loc (rewritten_property_key key) (rewritten_function function)

      pub rewritten_property_key : PropertyKey → PropertyKey
      rewritten_property_key (tree.NameKey text) = tree.NameKey text
      rewritten_property_key (tree.StringKey spelled) = tree.StringKey spelled
      rewritten_property_key (tree.NumberKey text) = tree.NumberKey text
      rewritten_property_key (tree.ComputedKey e) = tree.ComputedKey (rewritten_expr e)

      pub rewritten_concise_body : ConciseBody → ConciseBody
      rewritten_concise_body (tree.ExpressionBody e) = concise (expr_marks e) (rewritten_expr e)
      rewritten_concise_body (tree.BlockBody body) = tree.BlockBody (rewritten_function_body body)

      pub rewritten_for_init : ForInit → ForInit
      rewritten_for_init tree.NoInit = tree.NoInit
      rewritten_for_init (tree.InitDeclaration kind declarators) = tree.InitDeclaration kind (rewritten_declarators false declarators)
      rewritten_for_init (tree.InitExpression e) = tree.InitExpression (rewritten_expr e)

      pub rewritten_for_target : ForTarget → ForTarget
      rewritten_for_target (tree.TargetDeclaration kind pattern) = tree.TargetDeclaration kind pattern
      rewritten_for_target (tree.TargetExpression e) = tree.TargetExpression (rewritten_expr e)

      pub rewritten_template_part : TemplatePart → TemplatePart
      rewritten_template_part (tree.MakeTemplatePart e spelled) = tree.MakeTemplatePart (rewritten_expr e) spelled

      pub rewritten_function : Function → Function
      rewritten_function (tree.MakeFunction number params body) = tree.MakeFunction (code number) (rewritten_params params) (rewritten_function_body body)

      pub rewritten_function_body : FunctionBody → FunctionBody
      rewritten_function_body (tree.MakeFunctionBody loc xs) = tree.MakeFunctionBody loc (rewritten_stmts true xs)
      rewritten_function_body (tree.EnteredBody mark body) = begun_body mark (rewritten_function_body body)

      pub rewritten_param : Param → Param
      rewritten_param (tree.MakeParam loc pattern tree.none_expr) = tree.MakeParam loc pattern tree.none_expr
      rewritten_param (tree.MakeParam loc pattern (tree.some_expr e)) = tree.MakeParam loc pattern (tree.some_expr (held (is_anonymous e) (bound_name pattern) (expr_marks e) (rewritten_expr e)))

      -- `hoists` says whether it is the first of a declaration that is at home
      pub rewritten_declarator : Bool → Declarator → Declarator
      rewritten_declarator hoists (tree.MakeDeclarator loc pattern tree.none_expr) = tree.MakeDeclarator loc pattern tree.none_expr
      rewritten_declarator hoists (tree.MakeDeclarator loc pattern (tree.some_expr e)) =
          tree.MakeDeclarator loc pattern (tree.some_expr (initial hoists (is_anonymous e) (bound_name pattern) (expr_marks e) (rewritten_expr e)))

      pub rewritten_declarators : Bool → Declarators → Declarators
      rewritten_declarators hoists tree.no_declarator = tree.no_declarator
      rewritten_declarators hoists (tree.more_declarator x xs) = tree.more_declarator (rewritten_declarator hoists x) (rewritten_declarators false xs)

      pub rewritten_case : Case → Case
      rewritten_case (tree.MakeCase loc e xs) = tree.MakeCase loc (rewritten_expr_if e) (rewritten_stmts false xs)
      rewritten_case (tree.EnteredCase mark x) = begun_case mark (rewritten_case x)

      pub rewritten_catch : Catch → Catch
      rewritten_catch (tree.MakeCatch pattern xs) = tree.MakeCatch pattern (rewritten_stmts true xs)

      pub rewritten_expr_if : MaybeExpr → MaybeExpr
      rewritten_expr_if tree.none_expr = tree.none_expr
      rewritten_expr_if (tree.some_expr e) = tree.some_expr (rewritten_expr e)

      pub rewritten_exprs : Exprs → Exprs
      rewritten_exprs tree.no_expr = tree.no_expr
      rewritten_exprs (tree.more_expr x xs) = tree.more_expr (rewritten_expr x) (rewritten_exprs xs)

      pub rewritten_template_parts : TemplateParts → TemplateParts
      rewritten_template_parts tree.no_template_part = tree.no_template_part
      rewritten_template_parts (tree.more_template_part x xs) = tree.more_template_part (rewritten_template_part x) (rewritten_template_parts xs)

      pub rewritten_properties : Properties → Properties
      rewritten_properties tree.no_property = tree.no_property
      rewritten_properties (tree.more_property x xs) = tree.more_property (rewritten_property x) (rewritten_properties xs)

      pub rewritten_params : Params → Params
      rewritten_params tree.no_param = tree.no_param
      rewritten_params (tree.more_param x xs) = tree.more_param (rewritten_param x) (rewritten_params xs)

      pub rewritten_cases : Cases → Cases
      rewritten_cases tree.no_case = tree.no_case
      rewritten_cases (tree.more_case x xs) = tree.more_case (rewritten_case x) (rewritten_cases xs)

    -- a file, with what stands before its statements, after its directives
    abbrev pub rewritten_file : Stmts → File → File
    rewritten_file preamble (tree.MakeFile body comments) = tree.MakeFile (after_directives preamble (rewritten_stmts true body)) comments
