-- What the code makes of a tree as it is read, with the next numbers of the file's constructs: the tree with its counters and the numbers
-- after it. It is the linked tree, rewritten (proofs/Linking), and is told without the marks between.
use Rattle.std.specs.Prelude.{ℕ, suc, ◌+◌, Bool, true, false, ◌||◌, List, [], ◌∷◌, ◌++◌, Option, Some, None, length}
use Rattle.js_terms.specs.declared.place.Loc.{Loc}
use Rattle.js_terms.specs.declared.construct.ConstructKind.{ConstructKind}
use Rattle.js_terms.specs.declared.construct.ConstructKind.TheVariants as construct_kind
use Rattle.js_tree.specs.declared.hint.Hint.TheVariants as hint
use Rattle.js_terms.specs.declared.words.Identifier.{Identifier}
use Rattle.js_tree.specs.Hints.{Heed, Ignored, Heeding, heed, heed_arm, heed_comments, heeded_place, leaf_paths}
use Rattle.js_terms.specs.Mark.{Mark}
use Rattle.js_tree.specs.Linked.{Counts, next_of, after_one, mark, function_place}
use Rattle.js_tree.specs.Places.{bare_place, expr_place, stmt_place, stmt_if_place, property_place, param_place, declarator_place, case_place, concise_place, braced_place, body_place}
use Rattle.js_tree.specs.Plain as tree
use Rattle.js_tree.specs.Plain.{Expr, Stmt, Property, PropertyKey, ConciseBody, ForInit, ForTarget, TemplatePart, Function, FunctionBody, Param, Declarator, Case, Catch, MaybeExpr, MaybeStmt, Exprs, TemplateParts, Properties, Params, Stmts, Declarators, Cases, File}
use Rattle.cov_rewritten.specs.Rewritten.{is_anonymous, bound_name, joined, after_directives, counts, counted, held, initial}
use Rattle.cov_rewrite.specs.Blocks.{block_unless, arm_of, else_of, concise_of, are_some}

-- ---- numbers

-- the number of a construct that stands here, if it is counted, and the numbers after it
abbrev pub number_of : ConstructKind → Option Loc → Counts → Option ℕ
number_of kind None k = None
number_of kind (Some loc) k = Some (next_of kind k)

abbrev pub after_number : ConstructKind → Option Loc → Counts → Counts
after_number kind None k = k
after_number kind (Some loc) k = after_one kind k

abbrev pub number : ConstructKind → Heed → Option Loc → Counts → Option ℕ
number kind left loc k = number_of kind (heeded_place left loc) k

abbrev pub after : ConstructKind → Heed → Option Loc → Counts → Counts
after kind left loc k = after_number kind (heeded_place left loc) k

-- a mark for a path of what has a number
abbrev pub marks_of : ConstructKind → ℕ → Option ℕ → List Mark
marks_of kind path None = []
marks_of kind path (Some i) = mark 0 kind i path ∷ []

-- a part that is taken out is no path of its branch, and the paths after it move up
abbrev pub branch_in : Heed → Option ℕ → Option ℕ
branch_in Ignored branch = None
branch_in (Heeding hints) branch = branch

abbrev pub past : Heed → ℕ → ℕ
past Ignored path = path
past (Heeding hints) path = suc path

abbrev pub path_marks : Heed → Option ℕ → ℕ → List Mark
path_marks left branch path = marks_of construct_kind.Branch path (branch_in left branch)

abbrev pub own_marks : ConstructKind → Heed → Option Loc → Counts → List Mark
own_marks kind left loc k = marks_of kind 0 (number kind left loc k)

abbrev pub left_in : Heed → Expr → Heed
left_in left e = heed left (expr_place e)

-- ---- the numbers after a part; a logical operator that is an operand of another has no number

abbrev mutual
  pub next_expr : Heed → Bool → Expr → Counts → Counts
  next_expr left chained (tree.ArrayLiteral loc es) k = next_exprs left es k
  next_expr left chained (tree.ObjectLiteral loc properties) k = next_properties left properties k
  next_expr left chained (tree.FunctionExpression loc name function) k = next_function left (function_place loc name (body_place function)) function k
  next_expr left chained (tree.ArrowFunction loc i params body) k = next_concise left body (next_params left params (after construct_kind.Function left (function_place loc None (concise_place body)) k))
  next_expr left chained (tree.TemplateLiteral loc spelled parts) k = next_parts left parts k
  next_expr left chained (tree.Parenthesized loc e) k = next_expr left chained e k
  next_expr left chained (tree.NamedMember loc e text) k = next_expr (left_in left e) false e k
  next_expr left chained (tree.ComputedMember loc e f) k = next_expr (left_in left f) false f (next_expr (left_in left e) false e k)
  next_expr left chained (tree.New loc e es) k = next_exprs left es (next_expr (left_in left e) false e k)
  next_expr left chained (tree.Call loc e es) k = next_exprs left es (next_expr (left_in left e) false e k)
  next_expr left chained (tree.PostfixUpdate loc operator e) k = next_expr (left_in left e) false e k
  next_expr left chained (tree.PrefixUpdate loc operator e) k = next_expr (left_in left e) false e k
  next_expr left chained (tree.Unary loc operator e) k = next_expr (left_in left e) false e k
  next_expr left chained (tree.Binary loc operator e f) k = next_expr (left_in left f) false f (next_expr (left_in left e) false e k)
  next_expr left true (tree.Logical loc operator e f) k = next_expr (left_in left f) true f (next_expr (left_in left e) true e k)
  next_expr left false (tree.Logical loc operator e f) k = next_expr (left_in left f) true f (next_expr (left_in left e) true e (after construct_kind.Branch left loc k))
  next_expr left chained (tree.Conditional loc e f g) k = next_expr (left_in left g) false g (next_expr (left_in left f) false f (next_expr (left_in left e) false e (after construct_kind.Branch left loc k)))
  next_expr left chained (tree.Assignment loc operator e f) k = next_expr (left_in left f) false f (next_expr (left_in left e) false e k)
  next_expr left chained (tree.Comma loc e f) k = next_expr (left_in left f) false f (next_expr (left_in left e) false e k)
  next_expr left chained (tree.Entered m e) k = next_expr left chained e k
  next_expr left chained e k = k

  pub next_exprs : Heed → Exprs → Counts → Counts
  next_exprs left tree.no_expr k = k
  next_exprs left (tree.more_expr e es) k = next_exprs left es (next_expr (left_in left e) false e k)

  pub next_parts : Heed → TemplateParts → Counts → Counts
  next_parts left tree.no_template_part k = k
  next_parts left (tree.more_template_part x xs) k = next_parts left xs (next_part left x k)

  pub next_part : Heed → TemplatePart → Counts → Counts
  next_part left (tree.MakeTemplatePart e spelled) k = next_expr (left_in left e) false e k

  pub next_properties : Heed → Properties → Counts → Counts
  next_properties left tree.no_property k = k
  next_properties left (tree.more_property x xs) k = next_properties left xs (next_property (heed left (property_place x)) x k)

  pub next_property : Heed → Property → Counts → Counts
  next_property left (tree.Shorthand loc text) k = k
  next_property left (tree.KeyValue loc key e) k = next_expr (left_in left e) false e (next_key left key k)
  next_property left (tree.Method loc key (tree.MakeFunction i params body)) k = next_body left body (next_params left params (next_key left key (after construct_kind.Function left (function_place loc None (braced_place body)) k)))

  pub next_key : Heed → PropertyKey → Counts → Counts
  next_key left (tree.ComputedKey e) k = next_expr (left_in left e) false e k
  next_key left key k = k

  pub next_function : Heed → Option Loc → Function → Counts → Counts
  next_function left place (tree.MakeFunction i params body) k = next_body left body (next_params left params (after construct_kind.Function left place k))

  pub next_body : Heed → FunctionBody → Counts → Counts
  next_body left (tree.MakeFunctionBody loc xs) k = next_stmts left xs k
  next_body left (tree.EnteredBody m body) k = next_body left body k

  pub next_concise : Heed → ConciseBody → Counts → Counts
  next_concise left (tree.ExpressionBody e) k = next_expr (left_in left e) false e (after construct_kind.Statement (left_in left e) (bare_place e) k)
  next_concise left (tree.BlockBody body) k = next_body left body k

  pub next_params : Heed → Params → Counts → Counts
  next_params left tree.no_param k = k
  next_params left (tree.more_param x xs) k = next_params left xs (next_param (heed left (param_place x)) x k)

  pub next_param : Heed → Param → Counts → Counts
  next_param left (tree.MakeParam loc pattern tree.none_expr) k = k
  next_param left (tree.MakeParam loc pattern (tree.some_expr e)) k = next_expr (left_in left e) false e (after construct_kind.Branch left loc k)

  pub next_maybe : Heed → MaybeExpr → Counts → Counts
  next_maybe left tree.none_expr k = k
  next_maybe left (tree.some_expr e) k = next_expr (left_in left e) false e k

  pub next_stmts : Heed → Stmts → Counts → Counts
  next_stmts left tree.no_stmt k = k
  next_stmts left (tree.more_stmt x xs) k = next_stmts left xs (next_stmt (heed left (stmt_place x)) x k)

  pub next_stmt : Heed → Stmt → Counts → Counts
  next_stmt left (tree.Directive loc spelled) k = k
  next_stmt left (tree.Block loc xs) k = next_stmts left xs k
  next_stmt left (tree.VariableDeclaration loc kind xs) k = next_declarators left xs k
  next_stmt left (tree.Empty loc) k = k
  next_stmt left (tree.Expression loc e) k = next_expr (left_in left e) false e (after construct_kind.Statement left loc k)
  next_stmt left (tree.If loc e x y) k =
      next_arm (heed (heed_arm hint.Else left loc) (stmt_if_place y)) y (next_stmt (heed (heed_arm hint.If left loc) (stmt_place x)) x
      (next_expr (left_in left e) false e (after construct_kind.Branch left loc (after construct_kind.Statement left loc k))))
  next_stmt left (tree.DoWhile loc x e) k = next_expr (left_in left e) false e (next_stmt (heed left (stmt_place x)) x (after construct_kind.Statement left loc k))
  next_stmt left (tree.While loc e x) k = next_stmt (heed left (stmt_place x)) x (next_expr (left_in left e) false e (after construct_kind.Statement left loc k))
  next_stmt left (tree.For loc init e f x) k = next_stmt (heed left (stmt_place x)) x (next_maybe left f (next_maybe left e (next_init left init (after construct_kind.Statement left loc k))))
  next_stmt left (tree.ForIn loc target e x) k = next_stmt (heed left (stmt_place x)) x (next_expr (left_in left e) false e (next_target left target (after construct_kind.Statement left loc k)))
  next_stmt left (tree.ForOf loc target e x) k = next_stmt (heed left (stmt_place x)) x (next_expr (left_in left e) false e (next_target left target (after construct_kind.Statement left loc k)))
  next_stmt left (tree.Continue loc name) k = after construct_kind.Statement left loc k
  next_stmt left (tree.Break loc name) k = after construct_kind.Statement left loc k
  next_stmt left (tree.Return loc e) k = next_maybe left e (after construct_kind.Statement left loc k)
  next_stmt left (tree.Switch loc e cases) k = next_cases left cases (next_expr (left_in left e) false e (after construct_kind.Branch left loc (after construct_kind.Statement left loc k)))
  next_stmt left (tree.Labelled loc name x) k = next_stmt (heed left (stmt_place x)) x (after construct_kind.Statement left loc k)
  next_stmt left (tree.Throw loc e) k = next_expr (left_in left e) false e (after construct_kind.Statement left loc k)
  next_stmt left (tree.TryCatch loc xs catch) k = next_catch left catch (next_stmts left xs (after construct_kind.Statement left loc k))
  next_stmt left (tree.TryFinally loc xs ys) k = next_stmts left ys (next_stmts left xs (after construct_kind.Statement left loc k))
  next_stmt left (tree.TryCatchFinally loc xs catch ys) k = next_stmts left ys (next_catch left catch (next_stmts left xs (after construct_kind.Statement left loc k)))
  next_stmt left (tree.Debugger loc) k = after construct_kind.Statement left loc k
  next_stmt left (tree.FunctionDeclaration loc name function) k = next_function left (function_place loc (Some name) (body_place function)) function k
  next_stmt left (tree.EnteredStmt m x) k = next_stmt left x k

  pub next_arm : Heed → MaybeStmt → Counts → Counts
  next_arm left tree.none_stmt k = k
  next_arm left (tree.some_stmt x) k = next_stmt left x k
  next_arm left (tree.entered_none m) k = k

  pub next_declarators : Heed → Declarators → Counts → Counts
  next_declarators left tree.no_declarator k = k
  next_declarators left (tree.more_declarator x xs) k = next_declarators left xs (next_declarator (heed left (declarator_place x)) x k)

  pub next_declarator : Heed → Declarator → Counts → Counts
  next_declarator left (tree.MakeDeclarator loc pattern tree.none_expr) k = k
  next_declarator left (tree.MakeDeclarator loc pattern (tree.some_expr e)) k = next_expr (left_in left e) false e (after construct_kind.Statement (left_in left e) (bare_place e) k)

  pub next_init : Heed → ForInit → Counts → Counts
  next_init left tree.NoInit k = k
  next_init left (tree.InitDeclaration kind xs) k = next_declarators left xs k
  next_init left (tree.InitExpression e) k = next_expr (left_in left e) false e k

  pub next_target : Heed → ForTarget → Counts → Counts
  next_target left (tree.TargetDeclaration kind pattern) k = k
  next_target left (tree.TargetExpression e) k = next_expr (left_in left e) false e k

  pub next_cases : Heed → Cases → Counts → Counts
  next_cases left tree.no_case k = k
  next_cases left (tree.more_case x xs) k = next_cases left xs (next_case (heed left (case_place x)) x k)

  pub past_cases : Heed → ℕ → Cases → ℕ
  past_cases left path tree.no_case = path
  past_cases left path (tree.more_case x xs) = past_cases left (past (heed left (case_place x)) path) xs

  pub next_case : Heed → Case → Counts → Counts
  next_case left (tree.MakeCase loc e xs) k = next_stmts left xs (next_maybe left e k)
  next_case left (tree.EnteredCase m x) k = next_case left x k

  pub next_catch : Heed → Catch → Counts → Counts
  next_catch left (tree.MakeCatch pattern xs) k = next_stmts left xs k

-- of a function after its own number
abbrev pub next_inside : Heed → Function → Counts → Counts
next_inside left (tree.MakeFunction i params body) k = next_body left body (next_params left params k)

-- ---- the marks before a part

-- those of an initializer, or of an arrow's body
abbrev pub value_marks : Heed → Expr → Counts → List Mark
value_marks left e k = own_marks construct_kind.Statement (left_in left e) (bare_place e) k

-- those that go before a declaration, for its first initializer
abbrev pub hoisted_marks : (hoists anonymous : Bool) → List Mark → List Mark
hoisted_marks true true ms = ms
hoisted_marks hoists anonymous ms = []

abbrev pub hoisted_of : Bool → Heed → Declarator → Counts → List Mark
hoisted_of hoists left (tree.MakeDeclarator loc pattern tree.none_expr) k = []
hoisted_of hoists left (tree.MakeDeclarator loc pattern (tree.some_expr e)) k = hoisted_marks hoists (is_anonymous e) (value_marks left e k)

abbrev pub hoisted : Bool → Heed → Declarators → Counts → List Mark
hoisted home left (tree.more_declarator x xs) k = hoisted_of home (heed left (declarator_place x)) x k
hoisted home left tree.no_declarator k = []

-- those before a statement that stands in a list, or is a body: `home` says whether a declaration there stands directly in a file, a
-- function's body or a block of the source
abbrev pub marks_before : Bool → Heed → Stmt → Counts → List Mark
marks_before home left (tree.Directive loc spelled) k = []
marks_before home left (tree.Block loc xs) k = []
marks_before home left (tree.VariableDeclaration loc kind xs) k = hoisted home left xs k
marks_before home left (tree.Empty loc) k = []
marks_before home left (tree.Expression loc e) k = own_marks construct_kind.Statement left loc k
marks_before home left (tree.If loc e x y) k = own_marks construct_kind.Statement left loc k
marks_before home left (tree.DoWhile loc x e) k = own_marks construct_kind.Statement left loc k
marks_before home left (tree.While loc e x) k = own_marks construct_kind.Statement left loc k
marks_before home left (tree.For loc init e f x) k = own_marks construct_kind.Statement left loc k
marks_before home left (tree.ForIn loc target e x) k = own_marks construct_kind.Statement left loc k
marks_before home left (tree.ForOf loc target e x) k = own_marks construct_kind.Statement left loc k
marks_before home left (tree.Continue loc name) k = own_marks construct_kind.Statement left loc k
marks_before home left (tree.Break loc name) k = own_marks construct_kind.Statement left loc k
marks_before home left (tree.Return loc e) k = own_marks construct_kind.Statement left loc k
marks_before home left (tree.Switch loc e cases) k = own_marks construct_kind.Statement left loc k
marks_before home left (tree.Labelled loc name x) k = own_marks construct_kind.Statement left loc k ++ marks_before false (heed left (stmt_place x)) x (after construct_kind.Statement left loc k)
marks_before home left (tree.Throw loc e) k = own_marks construct_kind.Statement left loc k
marks_before home left (tree.TryCatch loc xs catch) k = own_marks construct_kind.Statement left loc k
marks_before home left (tree.TryFinally loc xs ys) k = own_marks construct_kind.Statement left loc k
marks_before home left (tree.TryCatchFinally loc xs catch ys) k = own_marks construct_kind.Statement left loc k
marks_before home left (tree.Debugger loc) k = own_marks construct_kind.Statement left loc k
marks_before home left (tree.FunctionDeclaration loc name function) k = []
marks_before home left (tree.EnteredStmt m x) k = marks_before home left x k

-- a statement is counted itself, and not what stands in it
abbrev pub is_counted : Stmt → Bool
is_counted (tree.Directive loc spelled) = false
is_counted (tree.Block loc xs) = false
is_counted (tree.VariableDeclaration loc kind xs) = false
is_counted (tree.Empty loc) = false
is_counted (tree.Labelled loc name x) = false
is_counted (tree.FunctionDeclaration loc name function) = false
is_counted (tree.EnteredStmt m x) = is_counted x
is_counted x = true

abbrev pub is_branching : Stmt → Bool
is_branching (tree.If loc e x y) = true
is_branching (tree.Switch loc e cases) = true
is_branching (tree.TryCatch loc xs catch) = true
is_branching (tree.TryFinally loc xs ys) = true
is_branching (tree.TryCatchFinally loc xs catch ys) = true
is_branching (tree.EnteredStmt m x) = is_branching x
is_branching x = false

-- those of an arm of an `if`: of its path, and its own
abbrev pub arm_before : Heed → MaybeStmt → Counts → List Mark
arm_before left tree.none_stmt k = []
arm_before left (tree.some_stmt x) k = marks_before false left x k
arm_before left (tree.entered_none m) k = []

-- ---- the forms

-- an operand of a chain of logical operators: the branch of the chain, and the next of its paths
pub data Operand : Type 0 where
  Alone : Operand
  Among : (branch : Option ℕ) → (path : ℕ) → Operand

abbrev pub is_among : Operand → Bool
is_among Alone = false
is_among (Among branch path) = true

-- an expression is no chain, and doesn't stand in parentheses
abbrev pub is_leaf : Expr → Bool
is_leaf (tree.Logical _ _ _ _) = false
is_leaf (tree.Parenthesized _ _) = false
is_leaf (tree.Entered m e) = is_leaf e
is_leaf e = true

module _ (counter : Mark → Expr) where
  -- an operand is a leaf, unless it is a chain or stands in parentheses
  abbrev pub leaf : Heed → Operand → Expr → Expr → Expr
  leaf left Alone e made = made
  leaf left (Among branch path) (tree.Logical _ _ _ _) made = made
  leaf left (Among branch path) (tree.Parenthesized _ _) made = made
  leaf left (Among branch path) (tree.Entered m e) made = leaf left (Among branch path) e made
  leaf left (Among branch path) e made = counted counter (path_marks left branch path) made

  abbrev mutual
    pub made_expr : Heed → Operand → Expr → Counts → Expr
    made_expr left chain (tree.IdentifierReference loc text) k = tree.IdentifierReference loc text
    made_expr left chain (tree.This loc) k = tree.This loc
    made_expr left chain (tree.NullLiteral loc) k = tree.NullLiteral loc
    made_expr left chain (tree.BooleanLiteral loc b) k = tree.BooleanLiteral loc b
    made_expr left chain (tree.NumericLiteral loc text) k = tree.NumericLiteral loc text
    made_expr left chain (tree.StringLiteral loc spelled) k = tree.StringLiteral loc spelled
    made_expr left chain (tree.ArrayLiteral loc es) k = tree.ArrayLiteral loc (made_exprs left es k)
    made_expr left chain (tree.ObjectLiteral loc properties) k = tree.ObjectLiteral loc (made_properties left properties k)
    made_expr left chain (tree.FunctionExpression loc name function) k = tree.FunctionExpression loc name (made_function left (function_place loc name (body_place function)) function k)
    made_expr left chain (tree.ArrowFunction loc i params body) k =
        let j = after construct_kind.Function left (function_place loc None (concise_place body)) k in
        tree.ArrowFunction loc 0 (made_params left params j) (made_concise left (counts counter (own_marks construct_kind.Function left (function_place loc None (concise_place body)) k)) body (next_params left params j))
    made_expr left chain (tree.RegularExpressionLiteral loc text flags) k = tree.RegularExpressionLiteral loc text flags
    made_expr left chain (tree.TemplateLiteral loc spelled parts) k = tree.TemplateLiteral loc spelled (made_parts left parts k)
    made_expr left chain (tree.Parenthesized loc e) k = tree.Parenthesized loc (leaf left chain e (made_expr left chain e k))
    made_expr left chain (tree.NamedMember loc e text) k = tree.NamedMember loc (made_expr (left_in left e) Alone e k) text
    made_expr left chain (tree.ComputedMember loc e f) k = tree.ComputedMember loc (made_expr (left_in left e) Alone e k) (made_expr (left_in left f) Alone f (next_expr (left_in left e) false e k))
    made_expr left chain (tree.New loc e es) k = tree.New loc (made_expr (left_in left e) Alone e k) (made_exprs left es (next_expr (left_in left e) false e k))
    made_expr left chain (tree.Call loc e es) k = tree.Call loc (made_expr (left_in left e) Alone e k) (made_exprs left es (next_expr (left_in left e) false e k))
    made_expr left chain (tree.PostfixUpdate loc operator e) k = tree.PostfixUpdate loc operator (made_expr (left_in left e) Alone e k)
    made_expr left chain (tree.PrefixUpdate loc operator e) k = tree.PrefixUpdate loc operator (made_expr (left_in left e) Alone e k)
    made_expr left chain (tree.Unary loc operator e) k = tree.Unary loc operator (made_expr (left_in left e) Alone e k)
    made_expr left chain (tree.Binary loc operator e f) k = tree.Binary loc operator (made_expr (left_in left e) Alone e k) (made_expr (left_in left f) Alone f (next_expr (left_in left e) false e k))
    made_expr left (Among b path) (tree.Logical loc operator e f) k = tree.Logical loc operator
        (leaf (left_in left e) (Among b path) e (made_expr (left_in left e) (Among b path) e k))
        (leaf (left_in left f) (Among b (path + length (leaf_paths (left_in left e) e))) f
        (made_expr (left_in left f) (Among b (path + length (leaf_paths (left_in left e) e))) f (next_expr (left_in left e) true e k)))
    made_expr left Alone (tree.Logical loc operator e f) k =
        let b = number construct_kind.Branch left loc k in
        let j = after construct_kind.Branch left loc k in
        tree.Logical loc operator
        (leaf (left_in left e) (Among b 0) e (made_expr (left_in left e) (Among b 0) e j))
        (leaf (left_in left f) (Among b (0 + length (leaf_paths (left_in left e) e))) f
        (made_expr (left_in left f) (Among b (0 + length (leaf_paths (left_in left e) e))) f (next_expr (left_in left e) true e j)))
    made_expr left chain (tree.Conditional loc e f g) k =
        let b = number construct_kind.Branch left loc k in
        let j = next_expr (left_in left e) false e (after construct_kind.Branch left loc k) in
        tree.Conditional loc (made_expr (left_in left e) Alone e (after construct_kind.Branch left loc k))
        (counted counter (path_marks (left_in left f) b 0) (made_expr (left_in left f) Alone f j))
        (counted counter (path_marks (left_in left g) b (past (left_in left f) 0)) (made_expr (left_in left g) Alone g (next_expr (left_in left f) false f j)))
    made_expr left chain (tree.Assignment loc operator e f) k = tree.Assignment loc operator (made_expr (left_in left e) Alone e k) (made_expr (left_in left f) Alone f (next_expr (left_in left e) false e k))
    made_expr left chain (tree.Comma loc e f) k = tree.Comma loc (made_expr (left_in left e) Alone e k) (made_expr (left_in left f) Alone f (next_expr (left_in left e) false e k))
    made_expr left chain (tree.Entered m e) k = made_expr left chain e k

    pub made_exprs : Heed → Exprs → Counts → Exprs
    made_exprs left tree.no_expr k = tree.no_expr
    made_exprs left (tree.more_expr e es) k = tree.more_expr (made_expr (left_in left e) Alone e k) (made_exprs left es (next_expr (left_in left e) false e k))

    pub made_parts : Heed → TemplateParts → Counts → TemplateParts
    made_parts left tree.no_template_part k = tree.no_template_part
    made_parts left (tree.more_template_part x xs) k = tree.more_template_part (made_part left x k) (made_parts left xs (next_part left x k))

    pub made_part : Heed → TemplatePart → Counts → TemplatePart
    made_part left (tree.MakeTemplatePart e spelled) k = tree.MakeTemplatePart (made_expr (left_in left e) Alone e k) spelled

    pub made_properties : Heed → Properties → Counts → Properties
    made_properties left tree.no_property k = tree.no_property
    made_properties left (tree.more_property x xs) k = tree.more_property (made_property (heed left (property_place x)) x k) (made_properties left xs (next_property (heed left (property_place x)) x k))

    pub made_property : Heed → Property → Counts → Property
    made_property left (tree.Shorthand loc text) k = tree.Shorthand loc text
    made_property left (tree.KeyValue loc key e) k = tree.KeyValue loc (made_key left key k) (made_expr (left_in left e) Alone e (next_key left key k))
    made_property left (tree.Method loc key (tree.MakeFunction i params body)) k =
        let place = function_place loc None (braced_place body) in
        let j = after construct_kind.Function left place k in
        tree.Method loc (made_key left key j) (tree.MakeFunction 0 (made_params left params (next_key left key j))
        (made_body left (counts counter (own_marks construct_kind.Function left place k)) body (next_params left params (next_key left key j))))

    pub made_key : Heed → PropertyKey → Counts → PropertyKey
    made_key left (tree.NameKey text) k = tree.NameKey text
    made_key left (tree.StringKey spelled) k = tree.StringKey spelled
    made_key left (tree.NumberKey text) k = tree.NumberKey text
    made_key left (tree.ComputedKey e) k = tree.ComputedKey (made_expr (left_in left e) Alone e k)

    -- a function whose construct stands here
    pub made_function : Heed → Option Loc → Function → Counts → Function
    made_function left place (tree.MakeFunction i params body) k =
        let j = after construct_kind.Function left place k in
        tree.MakeFunction 0 (made_params left params j) (made_body left (counts counter (own_marks construct_kind.Function left place k)) body (next_params left params j))

    -- a function's body, with the function's counter
    pub made_body : Heed → Stmts → FunctionBody → Counts → FunctionBody
    made_body left zs (tree.MakeFunctionBody loc xs) k = tree.MakeFunctionBody loc (after_directives zs (made_stmts true left xs k))
    made_body left zs (tree.EnteredBody m body) k = made_body left zs body k

    pub made_concise : Heed → Stmts → ConciseBody → Counts → ConciseBody
    made_concise left zs (tree.ExpressionBody e) k = concise_of (joined zs (counts counter (value_marks left e k))) (made_expr (left_in left e) Alone e (after construct_kind.Statement (left_in left e) (bare_place e) k))
    made_concise left zs (tree.BlockBody body) k = tree.BlockBody (made_body left zs body k)

    pub made_params : Heed → Params → Counts → Params
    made_params left tree.no_param k = tree.no_param
    made_params left (tree.more_param x xs) k = tree.more_param (made_param (heed left (param_place x)) x k) (made_params left xs (next_param (heed left (param_place x)) x k))

    pub made_param : Heed → Param → Counts → Param
    made_param left (tree.MakeParam loc pattern tree.none_expr) k = tree.MakeParam loc pattern tree.none_expr
    made_param left (tree.MakeParam loc pattern (tree.some_expr e)) k = tree.MakeParam loc pattern (tree.some_expr
        (held counter (is_anonymous e) (bound_name pattern) (path_marks (left_in left e) (number construct_kind.Branch left loc k) 0) (made_expr (left_in left e) Alone e (after construct_kind.Branch left loc k))))

    pub made_maybe : Heed → MaybeExpr → Counts → MaybeExpr
    made_maybe left tree.none_expr k = tree.none_expr
    made_maybe left (tree.some_expr e) k = tree.some_expr (made_expr (left_in left e) Alone e k)

    -- a list of statements
    pub made_stmts : Bool → Heed → Stmts → Counts → Stmts
    made_stmts home left tree.no_stmt k = tree.no_stmt
    made_stmts home left (tree.more_stmt x xs) k =
        let inner = heed left (stmt_place x) in
        joined (counts counter (marks_before home inner x k)) (tree.more_stmt (made_stmt home inner x k) (made_stmts home left xs (next_stmt inner x k)))

    -- a statement without the counters before it
    pub made_stmt : Bool → Heed → Stmt → Counts → Stmt
    made_stmt home left (tree.Directive loc spelled) k = tree.Directive loc spelled
    made_stmt home left (tree.Block loc xs) k = tree.Block loc (made_stmts true left xs k)
    made_stmt home left (tree.VariableDeclaration loc kind xs) k = tree.VariableDeclaration loc kind (made_declarators home left xs k)
    made_stmt home left (tree.Empty loc) k = tree.Empty loc
    made_stmt home left (tree.Expression loc e) k = tree.Expression loc (made_expr (left_in left e) Alone e (after construct_kind.Statement left loc k))
    made_stmt home left (tree.If loc e x y) k =
        let b = number construct_kind.Branch left loc (after construct_kind.Statement left loc k) in
        let h = after construct_kind.Branch left loc (after construct_kind.Statement left loc k) in
        let i = next_expr (left_in left e) false e h in
        let holds = heed (heed_arm hint.If left loc) (stmt_place x) in
        let fails = heed (heed_arm hint.Else left loc) (stmt_if_place y) in
        let j = next_stmt holds x i in
        let xs = counts counter (path_marks holds b 0 ++ marks_before false holds x i) in
        let ys = counts counter (path_marks fails b (past holds 0) ++ arm_before fails y j) in
        tree.If loc (made_expr (left_in left e) Alone e h) (arm_of (are_some xs || are_some ys) xs (made_stmt false holds x i)) (else_of (are_some xs || are_some ys) ys (bare_arm fails y j))
    made_stmt home left (tree.DoWhile loc x e) k =
        let j = after construct_kind.Statement left loc k in
        tree.DoWhile loc (block_unless (counts counter (marks_before false (heed left (stmt_place x)) x j)) (made_stmt false (heed left (stmt_place x)) x j)) (made_expr (left_in left e) Alone e (next_stmt (heed left (stmt_place x)) x j))
    made_stmt home left (tree.While loc e x) k =
        let j = after construct_kind.Statement left loc k in
        tree.While loc (made_expr (left_in left e) Alone e j) (block_unless (counts counter (marks_before false (heed left (stmt_place x)) x (next_expr (left_in left e) false e j))) (made_stmt false (heed left (stmt_place x)) x (next_expr (left_in left e) false e j)))
    made_stmt home left (tree.For loc init e f x) k =
        let h = after construct_kind.Statement left loc k in
        let i = next_init left init h in
        let j = next_maybe left e i in
        tree.For loc (made_init left init h) (made_maybe left e i) (made_maybe left f j) (block_unless (counts counter (marks_before false (heed left (stmt_place x)) x (next_maybe left f j))) (made_stmt false (heed left (stmt_place x)) x (next_maybe left f j)))
    made_stmt home left (tree.ForIn loc target e x) k =
        let i = after construct_kind.Statement left loc k in
        let j = next_target left target i in
        tree.ForIn loc (made_target left target i) (made_expr (left_in left e) Alone e j) (block_unless (counts counter (marks_before false (heed left (stmt_place x)) x (next_expr (left_in left e) false e j))) (made_stmt false (heed left (stmt_place x)) x (next_expr (left_in left e) false e j)))
    made_stmt home left (tree.ForOf loc target e x) k =
        let i = after construct_kind.Statement left loc k in
        let j = next_target left target i in
        tree.ForOf loc (made_target left target i) (made_expr (left_in left e) Alone e j) (block_unless (counts counter (marks_before false (heed left (stmt_place x)) x (next_expr (left_in left e) false e j))) (made_stmt false (heed left (stmt_place x)) x (next_expr (left_in left e) false e j)))
    made_stmt home left (tree.Continue loc name) k = tree.Continue loc name
    made_stmt home left (tree.Break loc name) k = tree.Break loc name
    made_stmt home left (tree.Return loc e) k = tree.Return loc (made_maybe left e (after construct_kind.Statement left loc k))
    made_stmt home left (tree.Switch loc e cases) k =
        let i = after construct_kind.Statement left loc k in
        let j = after construct_kind.Branch left loc i in
        tree.Switch loc (made_expr (left_in left e) Alone e j) (made_cases left (number construct_kind.Branch left loc i) 0 cases (next_expr (left_in left e) false e j))
    made_stmt home left (tree.Labelled loc name x) k = tree.Labelled loc name (made_stmt false (heed left (stmt_place x)) x (after construct_kind.Statement left loc k))
    made_stmt home left (tree.Throw loc e) k = tree.Throw loc (made_expr (left_in left e) Alone e (after construct_kind.Statement left loc k))
    made_stmt home left (tree.TryCatch loc xs catch) k =
        let j = after construct_kind.Statement left loc k in
        tree.TryCatch loc (made_stmts true left xs j) (made_catch left catch (next_stmts left xs j))
    made_stmt home left (tree.TryFinally loc xs ys) k =
        let j = after construct_kind.Statement left loc k in
        tree.TryFinally loc (made_stmts true left xs j) (made_stmts true left ys (next_stmts left xs j))
    made_stmt home left (tree.TryCatchFinally loc xs catch ys) k =
        let i = after construct_kind.Statement left loc k in
        let j = next_stmts left xs i in
        tree.TryCatchFinally loc (made_stmts true left xs i) (made_catch left catch j) (made_stmts true left ys (next_catch left catch j))
    made_stmt home left (tree.Debugger loc) k = tree.Debugger loc
    made_stmt home left (tree.FunctionDeclaration loc name function) k = tree.FunctionDeclaration loc name (made_function left (function_place loc (Some name) (body_place function)) function k)
    made_stmt home left (tree.EnteredStmt m x) k = made_stmt home left x k

    -- the arm itself
    pub bare_arm : Heed → MaybeStmt → Counts → MaybeStmt
    bare_arm left tree.none_stmt k = tree.none_stmt
    bare_arm left (tree.some_stmt x) k = tree.some_stmt (made_stmt false left x k)
    bare_arm left (tree.entered_none m) k = tree.none_stmt

    -- `hoists` says whether the first is the first of a declaration that is at home
    pub made_declarators : Bool → Heed → Declarators → Counts → Declarators
    made_declarators hoists left tree.no_declarator k = tree.no_declarator
    made_declarators hoists left (tree.more_declarator x xs) k =
        let inner = heed left (declarator_place x) in
        tree.more_declarator (made_declarator hoists inner x k) (made_declarators false left xs (next_declarator inner x k))

    pub made_declarator : Bool → Heed → Declarator → Counts → Declarator
    made_declarator hoists left (tree.MakeDeclarator loc pattern tree.none_expr) k = tree.MakeDeclarator loc pattern tree.none_expr
    made_declarator hoists left (tree.MakeDeclarator loc pattern (tree.some_expr e)) k = tree.MakeDeclarator loc pattern (tree.some_expr
        (initial counter hoists (is_anonymous e) (bound_name pattern) (value_marks left e k) (made_expr (left_in left e) Alone e (after construct_kind.Statement (left_in left e) (bare_place e) k))))

    pub made_init : Heed → ForInit → Counts → ForInit
    made_init left tree.NoInit k = tree.NoInit
    made_init left (tree.InitDeclaration kind xs) k = tree.InitDeclaration kind (made_declarators false left xs k)
    made_init left (tree.InitExpression e) k = tree.InitExpression (made_expr (left_in left e) Alone e k)

    pub made_target : Heed → ForTarget → Counts → ForTarget
    made_target left (tree.TargetDeclaration kind pattern) k = tree.TargetDeclaration kind pattern
    made_target left (tree.TargetExpression e) k = tree.TargetExpression (made_expr (left_in left e) Alone e k)

    -- the clauses of a `switch`, with its branch and the next of its paths
    pub made_cases : Heed → Option ℕ → ℕ → Cases → Counts → Cases
    made_cases left b path tree.no_case k = tree.no_case
    made_cases left b path (tree.more_case x xs) k =
        let inner = heed left (case_place x) in
        tree.more_case (made_case inner (counts counter (path_marks inner b path)) x k) (made_cases left b (past inner path) xs (next_case inner x k))

    pub made_case : Heed → Stmts → Case → Counts → Case
    made_case left zs (tree.MakeCase loc e xs) k = tree.MakeCase loc (made_maybe left e k) (joined zs (made_stmts false left xs (next_maybe left e k)))
    made_case left zs (tree.EnteredCase m x) k = made_case left zs x k

    pub made_catch : Heed → Catch → Counts → Catch
    made_catch left (tree.MakeCatch pattern xs) k = tree.MakeCatch pattern (made_stmts true left xs k)

  -- a function after its own number, with its counter
  abbrev pub made_inside : Heed → Stmts → Function → Counts → Function
  made_inside left zs (tree.MakeFunction i params body) k = tree.MakeFunction 0 (made_params left params k) (made_body left zs body (next_params left params k))

  -- the body of a loop
  abbrev pub made_looped : Heed → Stmt → Counts → Stmt
  made_looped left x k = block_unless (counts counter (marks_before false left x k)) (made_stmt false left x k)

  -- a file, with what stands before its statements, after its directives
  abbrev pub made_file : Stmts → File → Counts → File
  made_file first (tree.MakeFile body comments) k = tree.MakeFile (after_directives first (made_stmts true (heed_comments comments) body k)) comments
