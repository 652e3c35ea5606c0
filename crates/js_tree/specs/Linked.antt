-- A tree with its marks and its functions' numbers, made once from the tree as it is read: by cases, and in the order of the
-- text. The numbers of constructs go by kind from 0 in each file, a parent before what is in it; those of functions go through the
-- whole program. What a hint takes out has no mark and no number, but its functions keep theirs in the program.
use Rattle.std.specs.Prelude.{ℕ, suc, ◌+◌, List, Option, Some, None, length}
use Rattle.js_terms.specs.declared.place.Loc.{Loc}
use Rattle.js_terms.specs.declared.construct.ConstructKind.{ConstructKind}
use Rattle.js_terms.specs.declared.construct.ConstructKind.TheVariants as construct_kind
use Rattle.js_terms.specs.declared.words.Comment.{Comment}
use Rattle.js_terms.specs.declared.words.Identifier.{Identifier}
use Rattle.js_tree.specs.declared.hint.Hint.{Hint}
use Rattle.js_tree.specs.declared.hint.Hint.TheVariants as hint
use Rattle.js_tree.specs.Hints.{Heed, Ignored, Heeding, no_hints, heed, heed_arm, heed_comments, heeded_place, leaf_paths}
use Rattle.js_terms.specs.Mark.{Mark}
use Rattle.js_tree.specs.Places.{bare_place, expr_place, stmt_place, stmt_if_place, property_place, param_place, declarator_place, case_place, concise_place, braced_place}
use Rattle.js_tree.specs.Plain as tree
use Rattle.js_tree.specs.Plain.{Expr, Stmt, Property, PropertyKey, ConciseBody, ForInit, ForTarget, TemplatePart, Function, FunctionBody, Param, Declarator, Case, Catch, MaybeExpr, MaybeStmt, Exprs, TemplateParts, Properties, Params, Stmts, Declarators, Cases, File}

-- whether constructs are entered: in no file that isn't counted; in a counted one, by its number in the program and by what its
-- hints have left here
pub data Marking : Type 0 where
  Unmarked : Marking
  Within : (file : ℕ) → (left : Heed) → Marking

-- a counted file, as long as its comments aren't looked at
abbrev pub Marked : ℕ → Marking
Marked file = Within file no_hints

abbrev pub with_comments : Marking → List Comment → Marking
with_comments Unmarked comments = Unmarked
with_comments (Within file left) comments = Within file (heed_comments comments)

-- in a node that stands here, with its parentheses
abbrev pub at : Marking → Option Loc → Marking
at Unmarked place = Unmarked
at (Within file left) place = Within file (heed left place)

abbrev pub at_expr : Marking → Expr → Marking
at_expr m e = at m (expr_place e)

abbrev pub at_stmt : Marking → Stmt → Marking
at_stmt m x = at m (stmt_place x)

abbrev pub at_stmt_if : Marking → MaybeStmt → Marking
at_stmt_if m y = at m (stmt_if_place y)

abbrev pub at_property : Marking → Property → Marking
at_property m x = at m (property_place x)

abbrev pub at_param : Marking → Param → Marking
at_param m x = at m (param_place x)

abbrev pub at_declarator : Marking → Declarator → Marking
at_declarator m x = at m (declarator_place x)

abbrev pub at_case : Marking → Case → Marking
at_case m x = at m (case_place x)

-- in an arm of an `if` statement that stands here
abbrev pub at_arm : Hint → Marking → Option Loc → Marking
at_arm which Unmarked place = Unmarked
at_arm which (Within file left) place = Within file (heed_arm which left place)

-- the next number of each kind of construct
pub record Counts : Type 0 where
  pub statements : ℕ
  pub functions : ℕ
  pub branches : ℕ

-- the next number of a function of the program, and those of the file's constructs
pub record Numbers : Type 0 where
  pub code : ℕ
  pub counts : Counts

-- the next number of a kind, and the numbers after it
abbrev pub next_of : ConstructKind → Counts → ℕ
next_of construct_kind.Statement c = c.statements
next_of construct_kind.Function c = c.functions
next_of construct_kind.Branch c = c.branches

abbrev pub after_one : ConstructKind → Counts → Counts
after_one construct_kind.Statement c = record { statements = suc c.statements; functions = c.functions; branches = c.branches }
after_one construct_kind.Function c = record { statements = c.statements; functions = suc c.functions; branches = c.branches }
after_one construct_kind.Branch c = record { statements = c.statements; functions = c.functions; branches = suc c.branches }

abbrev pub after_code : Numbers → Numbers
after_code k = record { code = suc k.code; counts = k.counts }

-- a tree, and the numbers after it
pub record Linked (T : Type 0) : Type 0 where
  pub tree : T
  pub next : Numbers

-- a form by how many parts it has, one after another
abbrev pub kept : {T : Type 0} → T → Numbers → Linked T
kept t k = record { tree = t; next = k }

abbrev pub made : {A T : Type 0} → (A → T) → Linked A → Linked T
made f a = record { tree = f a.tree; next = a.next }

abbrev pub two : {A B T : Type 0} → (A → B → T) → Linked A → (Numbers → Linked B) → Linked T
two f a b = made (f a.tree) (b a.next)

abbrev pub three : {A B C T : Type 0} → (A → B → C → T) → Linked A → (Numbers → Linked B) → (Numbers → Linked C) → Linked T
three f a b c = two (f a.tree) (b a.next) c

abbrev pub four : {A B C D T : Type 0} → (A → B → C → D → T) → Linked A → (Numbers → Linked B) → (Numbers → Linked C) → (Numbers → Linked D) → Linked T
four f a b c d = three (f a.tree) (b a.next) c d

-- ---- the marks of a construct

-- none, where it isn't counted; or one for each of its paths
pub data Marks : Type 0 where
  Uncounted : Marks
  Counted : (file : ℕ) → (kind : ConstructKind) → (number : ℕ) → Marks

abbrev pub mark : ℕ → ConstructKind → ℕ → ℕ → Mark
mark file kind number path = record { file = file; kind = kind; number = number; path = path }

-- of a construct of a kind that stands here, and the numbers after it: what stands nowhere was inserted, and isn't counted
abbrev pub marks_at : ℕ → ConstructKind → Option Loc → Numbers → Marks
marks_at file kind None k = Uncounted
marks_at file kind (Some loc) k = Counted file kind (next_of kind k.counts)

abbrev pub after_marks_at : ConstructKind → Option Loc → Numbers → Numbers
after_marks_at kind None k = k
after_marks_at kind (Some loc) k = record { code = k.code; counts = after_one kind k.counts }

abbrev pub marks : Marking → ConstructKind → Option Loc → Numbers → Marks
marks Unmarked kind loc k = Uncounted
marks (Within file left) kind loc k = marks_at file kind (heeded_place left loc) k

abbrev pub after_marks : Marking → ConstructKind → Option Loc → Numbers → Numbers
after_marks Unmarked kind loc k = k
after_marks (Within file left) kind loc k = after_marks_at kind (heeded_place left loc) k

-- a construct has its number before what is in it
abbrev pub counting : {T : Type 0} → Marking → ConstructKind → Option Loc → (Marks → Numbers → Linked T) → Numbers → Linked T
counting m kind loc f k = f (marks m kind loc k) (after_marks m kind loc k)

-- ---- what enters a construct by one of its paths

abbrev pub enter_expr : Marks → ℕ → Expr → Expr
enter_expr Uncounted path e = e
enter_expr (Counted file kind number) path e = tree.Entered (mark file kind number path) e

abbrev pub enter_stmt : Marks → ℕ → Stmt → Stmt
enter_stmt Uncounted path x = x
enter_stmt (Counted file kind number) path x = tree.EnteredStmt (mark file kind number path) x

abbrev pub enter_case : Marks → ℕ → Case → Case
enter_case Uncounted path x = x
enter_case (Counted file kind number) path x = tree.EnteredCase (mark file kind number path) x

-- an arm that is missing is entered where it would begin
abbrev pub entered_arm : Mark → MaybeStmt → MaybeStmt
entered_arm m tree.none_stmt = tree.entered_none m
entered_arm m (tree.some_stmt x) = tree.some_stmt (tree.EnteredStmt m x)
entered_arm m (tree.entered_none n) = tree.entered_none m

abbrev pub enter_arm : Marks → ℕ → MaybeStmt → MaybeStmt
enter_arm Uncounted path x = x
enter_arm (Counted file kind number) path x = entered_arm (mark file kind number path) x

-- a part has no path where it is taken out, and the paths after it move up
abbrev pub by_path : Marking → Marks → Marks
by_path Unmarked b = Uncounted
by_path (Within file Ignored) b = Uncounted
by_path (Within file (Heeding hints)) b = b

abbrev pub past_path : Marking → ℕ → ℕ
past_path Unmarked path = path
past_path (Within file Ignored) path = path
past_path (Within file (Heeding hints)) path = suc path

-- whether an expression is an operand of a chain of logical operators; then the chain's branch, and the next of its paths
pub data Chain : Type 0 where
  Alone : Chain
  Operand : (branch : Marks) → (path : ℕ) → Chain

-- an operand is a leaf, unless it is a chain or stands in parentheses: then the leaves are in it
abbrev pub enter_leaf : Marks → ℕ → Expr → Expr
enter_leaf b path (tree.Logical loc operator left right) = tree.Logical loc operator left right
enter_leaf b path (tree.Parenthesized loc inner) = tree.Parenthesized loc inner
enter_leaf b path leaf = enter_expr b path leaf

abbrev pub operand : Marking → Chain → Linked Expr → Linked Expr
operand m Alone e = e
operand m (Operand b path) e = made (enter_leaf (by_path m b) path) e

-- the next path after the leaves of an operand
abbrev pub past_leaves : Marking → Expr → ℕ → ℕ
past_leaves Unmarked e path = path
past_leaves (Within file left) e path = path + length (leaf_paths left e)

-- a function is entered where its body starts
abbrev pub enter_body : Marks → FunctionBody → FunctionBody
enter_body Uncounted body = body
enter_body (Counted file kind number) body = tree.EnteredBody (mark file kind number 0) body

abbrev pub enter_concise_body : Marks → ConciseBody → ConciseBody
enter_concise_body f (tree.ExpressionBody e) = tree.ExpressionBody (enter_expr f 0 e)
enter_concise_body f (tree.BlockBody body) = tree.BlockBody (enter_body f body)

-- ---- the constructs

-- a statement, and an expression that is counted as one
abbrev pub counted_stmt : Marking → Option Loc → (Numbers → Linked Stmt) → Numbers → Linked Stmt
counted_stmt m loc f k = counting m construct_kind.Statement loc (λ s k. made (enter_stmt s 0) (f k)) k

abbrev pub counted_expr : Marking → Option Loc → (Numbers → Linked Expr) → Numbers → Linked Expr
counted_expr m loc f k = counting m construct_kind.Statement loc (λ s k. made (enter_expr s 0) (f k)) k

abbrev pub branched : {T : Type 0} → Marking → Option Loc → (Marks → Numbers → Linked T) → Numbers → Linked T
branched m loc f k = counting m construct_kind.Branch loc f k

-- a function is counted where it stands somewhere, and its name, where it has one, and its body do
abbrev pub both : Option Loc → Option Loc → Option Loc
both None other = None
both (Some loc) other = other

abbrev pub name_place : Option Loc → Option Identifier → Option Loc
name_place loc None = loc
name_place loc (Some name) = both loc name.loc

abbrev pub function_place : Option Loc → Option Identifier → Option Loc → Option Loc
function_place loc name body = both (name_place loc name) body

-- a function has its numbers before its parameters, and its parameters come before its body; a method has them before its key
abbrev pub numbered_function : {B T : Type 0} → Marking → Option Loc → (ℕ → Marks → Params → B → T) → (Numbers → Linked Params) → (Numbers → Linked B) → Numbers → Linked T
numbered_function m loc f params body k = counting m construct_kind.Function loc (λ c k. two (f k.code c) (params (after_code k)) body) k

-- the statement that a label stands before begins where the labelled one does: its mark comes before the label
abbrev pub labelled : Option Loc → Identifier → Stmt → Stmt
labelled loc name (tree.EnteredStmt mark x) = tree.EnteredStmt mark (labelled loc name x)
labelled loc name x = tree.Labelled loc name x

-- ---- the forms

abbrev mutual
  -- an expression, where it is said whether it is an operand of a chain of logical operators; a node is told what is left in it
  pub link_expr : Marking → Chain → Expr → Numbers → Linked Expr
  link_expr m chain (tree.IdentifierReference loc text) k = kept (tree.IdentifierReference loc text) k
  link_expr m chain (tree.This loc) k = kept (tree.This loc) k
  link_expr m chain (tree.NullLiteral loc) k = kept (tree.NullLiteral loc) k
  link_expr m chain (tree.BooleanLiteral loc b) k = kept (tree.BooleanLiteral loc b) k
  link_expr m chain (tree.NumericLiteral loc text) k = kept (tree.NumericLiteral loc text) k
  link_expr m chain (tree.StringLiteral loc spelled) k = kept (tree.StringLiteral loc spelled) k
  link_expr m chain (tree.ArrayLiteral loc es) k = made (tree.ArrayLiteral loc) (link_exprs m es k)
  link_expr m chain (tree.ObjectLiteral loc properties) k = made (tree.ObjectLiteral loc) (link_properties m properties k)
  link_expr m chain (tree.FunctionExpression loc name function) k = made (tree.FunctionExpression loc name) (link_function m loc name function k)
  link_expr m chain (tree.ArrowFunction loc number params body) k =
      numbered_function m (function_place loc None (concise_place body)) (λ code c ps b. tree.ArrowFunction loc code ps (enter_concise_body c b))
      (link_params m params) (link_concise_body m body) k
  link_expr m chain (tree.RegularExpressionLiteral loc text flags) k = kept (tree.RegularExpressionLiteral loc text flags) k
  link_expr m chain (tree.TemplateLiteral loc spelled parts) k = made (tree.TemplateLiteral loc spelled) (link_template_parts m parts k)
  link_expr m chain (tree.Parenthesized loc e) k = made (tree.Parenthesized loc) (operand m chain (link_expr m chain e k))
  link_expr m chain (tree.NamedMember loc e text) k = made (λ e'. tree.NamedMember loc e' text) (link_expr (at_expr m e) Alone e k)
  link_expr m chain (tree.ComputedMember loc e f) k = two (tree.ComputedMember loc) (link_expr (at_expr m e) Alone e k) (link_expr (at_expr m f) Alone f)
  link_expr m chain (tree.New loc e es) k = two (tree.New loc) (link_expr (at_expr m e) Alone e k) (link_exprs m es)
  link_expr m chain (tree.Call loc e es) k = two (tree.Call loc) (link_expr (at_expr m e) Alone e k) (link_exprs m es)
  link_expr m chain (tree.PostfixUpdate loc operator e) k = made (tree.PostfixUpdate loc operator) (link_expr (at_expr m e) Alone e k)
  link_expr m chain (tree.PrefixUpdate loc operator e) k = made (tree.PrefixUpdate loc operator) (link_expr (at_expr m e) Alone e k)
  link_expr m chain (tree.Unary loc operator e) k = made (tree.Unary loc operator) (link_expr (at_expr m e) Alone e k)
  link_expr m chain (tree.Binary loc operator e f) k = two (tree.Binary loc operator) (link_expr (at_expr m e) Alone e k) (link_expr (at_expr m f) Alone f)
  link_expr m (Operand b path) (tree.Logical loc operator e f) k = two (tree.Logical loc operator)
      (operand (at_expr m e) (Operand b path) (link_expr (at_expr m e) (Operand b path) e k))
      (λ k. operand (at_expr m f) (Operand b (past_leaves (at_expr m e) e path)) (link_expr (at_expr m f) (Operand b (past_leaves (at_expr m e) e path)) f k))
  link_expr m Alone (tree.Logical loc operator e f) k = branched m loc (λ b k. two (tree.Logical loc operator)
      (operand (at_expr m e) (Operand b 0) (link_expr (at_expr m e) (Operand b 0) e k))
      (λ k. operand (at_expr m f) (Operand b (past_leaves (at_expr m e) e 0)) (link_expr (at_expr m f) (Operand b (past_leaves (at_expr m e) e 0)) f k))) k
  link_expr m chain (tree.Conditional loc e f g) k = branched m loc
      (λ b k. three (λ e' f' g'. tree.Conditional loc e' (enter_expr (by_path (at_expr m f) b) 0 f') (enter_expr (by_path (at_expr m g) b) (past_path (at_expr m f) 0) g'))
      (link_expr (at_expr m e) Alone e k) (link_expr (at_expr m f) Alone f) (link_expr (at_expr m g) Alone g)) k
  link_expr m chain (tree.Assignment loc operator e f) k = two (tree.Assignment loc operator) (link_expr (at_expr m e) Alone e k) (link_expr (at_expr m f) Alone f)
  link_expr m chain (tree.Comma loc e f) k = two (tree.Comma loc) (link_expr (at_expr m e) Alone e k) (link_expr (at_expr m f) Alone f)
  link_expr m chain (tree.Entered mark e) k = link_expr m chain e k

  pub link_stmt : Marking → Stmt → Numbers → Linked Stmt
  link_stmt m (tree.Directive loc spelled) k = kept (tree.Directive loc spelled) k
  link_stmt m (tree.Block loc xs) k = made (tree.Block loc) (link_stmts m xs k)
  link_stmt m (tree.VariableDeclaration loc kind declarators) k = made (tree.VariableDeclaration loc kind) (link_declarators m declarators k)
  link_stmt m (tree.Empty loc) k = kept (tree.Empty loc) k
  link_stmt m (tree.Expression loc e) k = counted_stmt m loc (λ k. made (tree.Expression loc) (link_expr (at_expr m e) Alone e k)) k
  link_stmt m (tree.If loc e x y) k = counted_stmt m loc (λ k. branched m loc (λ b k.
      let holds = at_stmt (at_arm hint.If m loc) x in
      let fails = at_stmt_if (at_arm hint.Else m loc) y in
      three (λ e' x' y'. tree.If loc e' (enter_stmt (by_path holds b) 0 x') (enter_arm (by_path fails b) (past_path holds 0) y'))
      (link_expr (at_expr m e) Alone e k) (link_stmt holds x) (link_stmt_if fails y)) k) k
  link_stmt m (tree.DoWhile loc x e) k = counted_stmt m loc (λ k. two (tree.DoWhile loc) (link_stmt (at_stmt m x) x k) (link_expr (at_expr m e) Alone e)) k
  link_stmt m (tree.While loc e x) k = counted_stmt m loc (λ k. two (tree.While loc) (link_expr (at_expr m e) Alone e k) (link_stmt (at_stmt m x) x)) k
  link_stmt m (tree.For loc init e f x) k = counted_stmt m loc (λ k. four (tree.For loc) (link_for_init m init k) (link_expr_if m e) (link_expr_if m f) (link_stmt (at_stmt m x) x)) k
  link_stmt m (tree.ForIn loc target e x) k = counted_stmt m loc (λ k. three (tree.ForIn loc) (link_for_target m target k) (link_expr (at_expr m e) Alone e) (link_stmt (at_stmt m x) x)) k
  link_stmt m (tree.ForOf loc target e x) k = counted_stmt m loc (λ k. three (tree.ForOf loc) (link_for_target m target k) (link_expr (at_expr m e) Alone e) (link_stmt (at_stmt m x) x)) k
  link_stmt m (tree.Continue loc name) k = counted_stmt m loc (λ k. kept (tree.Continue loc name) k) k
  link_stmt m (tree.Break loc name) k = counted_stmt m loc (λ k. kept (tree.Break loc name) k) k
  link_stmt m (tree.Return loc e) k = counted_stmt m loc (λ k. made (tree.Return loc) (link_expr_if m e k)) k
  link_stmt m (tree.Switch loc e cases) k = counted_stmt m loc (λ k. branched m loc
      (λ b k. two (tree.Switch loc) (link_expr (at_expr m e) Alone e k) (link_cases m b 0 cases)) k) k
  link_stmt m (tree.Labelled loc name x) k = counted_stmt m loc (λ k. made (labelled loc name) (link_stmt (at_stmt m x) x k)) k
  link_stmt m (tree.Throw loc e) k = counted_stmt m loc (λ k. made (tree.Throw loc) (link_expr (at_expr m e) Alone e k)) k
  link_stmt m (tree.TryCatch loc xs catch) k = counted_stmt m loc (λ k. two (tree.TryCatch loc) (link_stmts m xs k) (link_catch m catch)) k
  link_stmt m (tree.TryFinally loc xs ys) k = counted_stmt m loc (λ k. two (tree.TryFinally loc) (link_stmts m xs k) (link_stmts m ys)) k
  link_stmt m (tree.TryCatchFinally loc xs catch ys) k = counted_stmt m loc (λ k. three (tree.TryCatchFinally loc) (link_stmts m xs k) (link_catch m catch) (link_stmts m ys)) k
  link_stmt m (tree.Debugger loc) k = counted_stmt m loc (λ k. kept (tree.Debugger loc) k) k
  link_stmt m (tree.FunctionDeclaration loc name function) k = made (tree.FunctionDeclaration loc name) (link_function m loc (Some name) function k)
  link_stmt m (tree.EnteredStmt mark x) k = link_stmt m x k

  pub link_property : Marking → Property → Numbers → Linked Property
  link_property m (tree.Shorthand loc text) k = kept (tree.Shorthand loc text) k
  link_property m (tree.KeyValue loc key e) k = two (tree.KeyValue loc) (link_property_key m key k) (link_expr (at_expr m e) Alone e)
  link_property m (tree.Method loc key (tree.MakeFunction number params body)) k = counting m construct_kind.Function (function_place loc None (braced_place body))
      (λ c k. three (λ key' ps b. tree.Method loc key' (tree.MakeFunction k.code ps (enter_body c b)))
      (link_property_key m key (after_code k)) (link_params m params) (link_function_body m body)) k

  pub link_property_key : Marking → PropertyKey → Numbers → Linked PropertyKey
  link_property_key m (tree.NameKey text) k = kept (tree.NameKey text) k
  link_property_key m (tree.StringKey spelled) k = kept (tree.StringKey spelled) k
  link_property_key m (tree.NumberKey text) k = kept (tree.NumberKey text) k
  link_property_key m (tree.ComputedKey e) k = made tree.ComputedKey (link_expr (at_expr m e) Alone e k)

  pub link_concise_body : Marking → ConciseBody → Numbers → Linked ConciseBody
  link_concise_body m (tree.ExpressionBody e) k = made tree.ExpressionBody (counted_expr (at_expr m e) (bare_place e) (link_expr (at_expr m e) Alone e) k)
  link_concise_body m (tree.BlockBody body) k = made tree.BlockBody (link_function_body m body k)

  pub link_for_init : Marking → ForInit → Numbers → Linked ForInit
  link_for_init m tree.NoInit k = kept tree.NoInit k
  link_for_init m (tree.InitDeclaration kind declarators) k = made (tree.InitDeclaration kind) (link_declarators m declarators k)
  link_for_init m (tree.InitExpression e) k = made tree.InitExpression (link_expr (at_expr m e) Alone e k)

  pub link_for_target : Marking → ForTarget → Numbers → Linked ForTarget
  link_for_target m (tree.TargetDeclaration kind pattern) k = kept (tree.TargetDeclaration kind pattern) k
  link_for_target m (tree.TargetExpression e) k = made tree.TargetExpression (link_expr (at_expr m e) Alone e k)

  pub link_template_part : Marking → TemplatePart → Numbers → Linked TemplatePart
  link_template_part m (tree.MakeTemplatePart e spelled) k = made (λ e'. tree.MakeTemplatePart e' spelled) (link_expr (at_expr m e) Alone e k)

  pub link_function : Marking → Option Loc → Option Identifier → Function → Numbers → Linked Function
  link_function m loc name (tree.MakeFunction number params body) k =
      numbered_function m (function_place loc name (braced_place body)) (λ code c ps b. tree.MakeFunction code ps (enter_body c b))
      (link_params m params) (link_function_body m body) k

  pub link_function_body : Marking → FunctionBody → Numbers → Linked FunctionBody
  link_function_body m (tree.MakeFunctionBody loc xs) k = made (tree.MakeFunctionBody loc) (link_stmts m xs k)
  link_function_body m (tree.EnteredBody mark body) k = link_function_body m body k

  pub link_param : Marking → Param → Numbers → Linked Param
  link_param m (tree.MakeParam loc pattern tree.none_expr) k = kept (tree.MakeParam loc pattern tree.none_expr) k
  link_param m (tree.MakeParam loc pattern (tree.some_expr e)) k = branched m loc
      (λ b k. made (λ e'. tree.MakeParam loc pattern (tree.some_expr (enter_expr (by_path (at_expr m e) b) 0 e'))) (link_expr (at_expr m e) Alone e k)) k

  pub link_declarator : Marking → Declarator → Numbers → Linked Declarator
  link_declarator m (tree.MakeDeclarator loc pattern tree.none_expr) k = kept (tree.MakeDeclarator loc pattern tree.none_expr) k
  link_declarator m (tree.MakeDeclarator loc pattern (tree.some_expr e)) k =
      made (λ e'. tree.MakeDeclarator loc pattern (tree.some_expr e')) (counted_expr (at_expr m e) (bare_place e) (link_expr (at_expr m e) Alone e) k)

  pub link_case : Marking → Case → Numbers → Linked Case
  link_case m (tree.MakeCase loc e xs) k = two (tree.MakeCase loc) (link_expr_if m e k) (link_stmts m xs)
  link_case m (tree.EnteredCase mark x) k = link_case m x k

  pub link_catch : Marking → Catch → Numbers → Linked Catch
  link_catch m (tree.MakeCatch pattern xs) k = made (tree.MakeCatch pattern) (link_stmts m xs k)

  pub link_expr_if : Marking → MaybeExpr → Numbers → Linked MaybeExpr
  link_expr_if m tree.none_expr k = kept tree.none_expr k
  link_expr_if m (tree.some_expr e) k = made tree.some_expr (link_expr (at_expr m e) Alone e k)

  pub link_stmt_if : Marking → MaybeStmt → Numbers → Linked MaybeStmt
  link_stmt_if m tree.none_stmt k = kept tree.none_stmt k
  link_stmt_if m (tree.some_stmt x) k = made tree.some_stmt (link_stmt m x k)
  link_stmt_if m (tree.entered_none mark) k = kept tree.none_stmt k

  pub link_exprs : Marking → Exprs → Numbers → Linked Exprs
  link_exprs m tree.no_expr k = kept tree.no_expr k
  link_exprs m (tree.more_expr x xs) k = two tree.more_expr (link_expr (at_expr m x) Alone x k) (link_exprs m xs)

  pub link_template_parts : Marking → TemplateParts → Numbers → Linked TemplateParts
  link_template_parts m tree.no_template_part k = kept tree.no_template_part k
  link_template_parts m (tree.more_template_part x xs) k = two tree.more_template_part (link_template_part m x k) (link_template_parts m xs)

  pub link_properties : Marking → Properties → Numbers → Linked Properties
  link_properties m tree.no_property k = kept tree.no_property k
  link_properties m (tree.more_property x xs) k = two tree.more_property (link_property (at_property m x) x k) (link_properties m xs)

  pub link_params : Marking → Params → Numbers → Linked Params
  link_params m tree.no_param k = kept tree.no_param k
  link_params m (tree.more_param x xs) k = two tree.more_param (link_param (at_param m x) x k) (link_params m xs)

  pub link_stmts : Marking → Stmts → Numbers → Linked Stmts
  link_stmts m tree.no_stmt k = kept tree.no_stmt k
  link_stmts m (tree.more_stmt x xs) k = two tree.more_stmt (link_stmt (at_stmt m x) x k) (link_stmts m xs)

  pub link_declarators : Marking → Declarators → Numbers → Linked Declarators
  link_declarators m tree.no_declarator k = kept tree.no_declarator k
  link_declarators m (tree.more_declarator x xs) k = two tree.more_declarator (link_declarator (at_declarator m x) x k) (link_declarators m xs)

  pub link_cases : Marking → Marks → ℕ → Cases → Numbers → Linked Cases
  link_cases m b path tree.no_case k = kept tree.no_case k
  link_cases m b path (tree.more_case x xs) k = two (λ x' xs'. tree.more_case (enter_case (by_path (at_case m x) b) path x') xs')
      (link_case (at_case m x) x k) (link_cases m b (past_path (at_case m x) path) xs)

abbrev pub link_file : Marking → File → Numbers → Linked File
link_file m (tree.MakeFile body comments) k = made (λ body'. tree.MakeFile body' comments) (link_stmts (with_comments m comments) body k)
