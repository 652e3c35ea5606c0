-- The constructs of a file that coverage counts, in the order in which those of each kind are numbered: a parent before what is
-- in it, and from left to right. A node that was inserted has no place and is no construct, but what is in it is looked at; what a
-- hint takes out is counted as if it stood nowhere, and has no path.
use Rattle.std.specs.Prelude.{ℕ, ◌+◌, ◌^◌, ◌-◌, min, Bool, true, false, List, [], ◌∷◌, ◌++◌, Option, Some, None, codes, decimal, if◌then◌else◌}
use Rattle.js_terms.specs.declared.construct.BranchKind.{BranchKind}
use Rattle.js_terms.specs.declared.construct.BranchKind.TheVariants as branch_kind
use Rattle.js_terms.specs.declared.construct.Construct.{Construct}
use Rattle.js_terms.specs.declared.construct.Construct.TheVariants as construct
use Rattle.js_terms.specs.declared.place.Loc.{Loc}
use Rattle.js_terms.specs.declared.place.Pos.{Pos}
use Rattle.js_terms.specs.declared.words.Identifier.{Identifier}
use Rattle.js_tree.specs.declared.hint.Hint.TheVariants as hint
use Rattle.js_tree.specs.Hints.{Heed, no_hints, heed, heed_arm, heed_comments, heeded_place, path_in, case_paths, leaf_paths}
use Rattle.js_tree.specs.Places.{bare_place, expr_place, stmt_place, stmt_if_place, property_place, param_place, declarator_place, case_place, body_place, concise_place}
use Rattle.js_tree.specs.Plain.{Expr, FunctionExpression, ArrowFunction, Conditional, Logical, Parenthesized}
use Rattle.js_tree.specs.Plain.{Stmt, Directive, Block, VariableDeclaration, Empty, If, Switch, FunctionDeclaration}
use Rattle.js_tree.specs.Plain.{ConciseBody, ExpressionBody, BlockBody, Property, Method, Param}
use Rattle.js_tree.specs.Plain.{Declarator, MakeDeclarator, MakeParam}
use Rattle.js_tree.specs.Plain.{none_expr, some_expr, MaybeStmt, File, MakeFile}
use Rattle.js_walk.specs.Part.{Part, AnExpr, AStmt, AProperty, AConciseBody, AParam, ADeclarator, ACase, AThen, AnElse}
use Rattle.js_walk.specs.Walk.{visit, within_expr, within_stmt, within_declarator, within_stmts}

-- ---- where something stands

-- the one column from here: the greatest column is followed by itself
abbrev pub one_column : Pos → Loc
one_column start = record { start = start; end = record { line = start.line; column = min (start.column + 1) (2 ^ 32 - 1) } }

-- ---- what is counted there, where it has a place

-- a statement
abbrev pub counted : Option Loc → List Construct
counted None = []
counted (Some loc) = construct.Statement loc ∷ []

-- a branch
abbrev pub branch : BranchKind → Option Loc → List (Option Loc) → List Construct
branch kind None paths = []
branch kind (Some loc) paths = construct.Branch kind loc paths ∷ []

-- the name that a function is written with: the empty one, where it has none (15.2.5)
abbrev pub written_name : Option Identifier → List ℕ
written_name None = []
written_name (Some name) = name.name

-- where a function that starts here is declared: where its name stands, or the first column of it
abbrev pub declared_place : Pos → Option Identifier → Option Loc
declared_place start None = Some (one_column start)
declared_place start (Some name) = name.loc

-- a function that is declared and has its body in these places
abbrev pub function_at : List ℕ → (declared body : Option Loc) → List Construct
function_at name (Some declared) (Some body) = construct.Function name declared body ∷ []
function_at name _ _ = []

-- a function that stands here, by its name and the place of its body
abbrev pub counted_function : Option Loc → Option Identifier → Option Loc → List Construct
counted_function None name body = []
counted_function (Some loc) name body = function_at (written_name name) (declared_place loc.start name) body

-- ---- what a part of a file is told

-- what hints have left here; of the parts of an `if` statement, what they have left in its arms; whether this is an operand of a chain
-- of logical operators; and whether parentheses stand round this expression, with which it starts
pub record Told : Type 0 where
  pub left : Heed
  pub holds : Heed
  pub fails : Heed
  pub chained : Bool
  pub inner : Bool

abbrev pub told : Heed → Told
told left = record { left = left; holds = left; fails = left; chained = false; inner = false }

abbrev pub told_operand : Heed → Told
told_operand left = record { left = left; holds = left; fails = left; chained = true; inner = false }

abbrev pub told_inner : Bool → Heed → Told
told_inner chained left = record { left = left; holds = left; fails = left; chained = chained; inner = true }

abbrev pub told_arms : Heed → (holds fails : Heed) → Told
told_arms left holds fails = record { left = left; holds = holds; fails = fails; chained = false; inner = false }

-- what is left in a node, by where it stands with its parentheses
abbrev pub left_in : Told → Part → Heed
left_in c (AnExpr e) = if c.inner then c.left else heed c.left (expr_place e)
left_in c (AStmt stmt) = heed c.left (stmt_place stmt)
left_in c (AProperty property) = heed c.left (property_place property)
left_in c (AParam param) = heed c.left (param_place param)
left_in c (ADeclarator declarator) = heed c.left (declarator_place declarator)
left_in c (ACase case) = heed c.left (case_place case)
left_in c (AThen _) = c.holds
left_in c (AnElse _) = c.fails
left_in c _ = c.left

-- ---- what a part of a file gives

-- the paths of an `if`: the first has the place of the whole statement, the second that of the arm after `else`
abbrev pub if_paths : Heed → Option Loc → Stmt → MaybeStmt → List (Option Loc)
if_paths left loc holds fails = path_in (heed (heed_arm hint.If left loc) (stmt_place holds)) loc
    ++ path_in (heed (heed_arm hint.Else left loc) (stmt_if_place fails)) (stmt_if_place fails)

-- the path of an expression
abbrev pub expr_paths : Heed → Expr → List (Option Loc)
expr_paths left e = path_in (heed left (expr_place e)) (bare_place e)

-- an expression that is counted as a statement
abbrev pub counted_expr : Heed → Expr → List Construct
counted_expr left e = counted (heeded_place (heed left (expr_place e)) (bare_place e))

-- a directive, a block, an empty statement and a declaration of variables are none; an `if` and a `switch` come before their
-- branch
abbrev pub own_stmt : Heed → Stmt → List Construct
own_stmt left (Directive _ _) = []
own_stmt left (Block _ _) = []
own_stmt left (VariableDeclaration _ _ _) = []
own_stmt left (Empty _) = []
own_stmt left (FunctionDeclaration loc name function) = counted_function (heeded_place left loc) (Some name) (body_place function)
own_stmt left (If loc _ holds fails) = counted (heeded_place left loc) ++ branch branch_kind.If (heeded_place left loc) (if_paths left loc holds fails)
own_stmt left (Switch loc _ cases) = counted (heeded_place left loc) ++ branch branch_kind.Switch (heeded_place left loc) (case_paths left cases)
own_stmt left stmt = counted (heeded_place left (stmt_place stmt))

-- a function; a condition; a chain of logical operators, unless it goes on a chain that it is in
abbrev pub own_expr : Heed → Bool → Expr → List Construct
own_expr left _ (FunctionExpression loc name function) = counted_function (heeded_place left loc) name (body_place function)
own_expr left _ (ArrowFunction loc _ _ body) = counted_function (heeded_place left loc) None (concise_place body)
own_expr left _ (Conditional loc _ holds fails) = branch branch_kind.Conditional (heeded_place left loc) (expr_paths left holds ++ expr_paths left fails)
own_expr left false (Logical loc operator e f) = branch branch_kind.Logical (heeded_place left loc) (leaf_paths (heed left (expr_place e)) e ++ leaf_paths (heed left (expr_place f)) f)
own_expr left _ _ = []

-- a method starts with its property
abbrev pub own_property : Heed → Property → List Construct
own_property left (Method loc _ function) = counted_function (heeded_place left loc) None (body_place function)
own_property left _ = []

-- the initializer of a declarator is counted as a statement
abbrev pub own_declarator : Heed → Declarator → List Construct
own_declarator left (MakeDeclarator _ _ none_expr) = []
own_declarator left (MakeDeclarator _ _ (some_expr e)) = counted_expr left e

-- a default
abbrev pub own_param : Heed → Param → List Construct
own_param left (MakeParam loc _ none_expr) = []
own_param left (MakeParam loc _ (some_expr default)) = branch branch_kind.Default (heeded_place left loc) (expr_paths left default)

-- an expression that is an arrow's body is counted as a statement
abbrev pub own_concise_body : Heed → ConciseBody → List Construct
own_concise_body left (ExpressionBody e) = counted_expr left e
own_concise_body left (BlockBody _) = []

abbrev pub own_construct : Told → Part → List Construct
own_construct c (AStmt stmt) = own_stmt (left_in c (AStmt stmt)) stmt
own_construct c (AnExpr e) = own_expr (left_in c (AnExpr e)) c.chained e
own_construct c (AProperty property) = own_property (left_in c (AProperty property)) property
own_construct c (ADeclarator declarator) = own_declarator (left_in c (ADeclarator declarator)) declarator
own_construct c (AParam param) = own_param (left_in c (AParam param)) param
own_construct c (AConciseBody body) = own_concise_body c.left body
own_construct c _ = []

-- ---- what a part tells the parts in it

-- an operand of a chain is a part of a logical operator, or stands in parentheses that are one
abbrev pub tell_expr : Heed → Bool → Expr → Told
tell_expr left chained (Logical _ _ _ _) = told_operand left
tell_expr left chained (Parenthesized _ _) = told_inner chained left
tell_expr left chained _ = told left

abbrev pub tell_stmt : Heed → Stmt → Told
tell_stmt left (If loc _ _ _) = told_arms left (heed_arm hint.If left loc) (heed_arm hint.Else left loc)
tell_stmt left _ = told left

abbrev pub tell : Told → Part → Option Told
tell c (AnExpr e) = Some (tell_expr (left_in c (AnExpr e)) c.chained e)
tell c (AStmt stmt) = Some (tell_stmt (left_in c (AStmt stmt)) stmt)
tell c part = Some (told (left_in c part))

-- ---- a whole file

-- an expression and what is in it
abbrev pub constructs_expr : Expr → List Construct
constructs_expr e = visit own_construct tell (told no_hints) (AnExpr e) (within_expr own_construct tell e)

abbrev pub constructs_stmt : Stmt → List Construct
constructs_stmt s = visit own_construct tell (told no_hints) (AStmt s) (within_stmt own_construct tell s)

abbrev pub constructs_declarator : Declarator → List Construct
constructs_declarator d = visit own_construct tell (told no_hints) (ADeclarator d) (within_declarator own_construct tell d)

-- the name of a function that is written without one, by its number among the file's functions
abbrev pub anonymous : ℕ → List ℕ
anonymous number = codes "(anonymous_" ++ decimal number ++ codes ")"

-- the name of a function where this many functions come before: its own, if it has one
abbrev pub name_or_anonymous : ℕ → List ℕ → List ℕ
name_or_anonymous number [] = anonymous number
name_or_anonymous number (c ∷ name) = c ∷ name

abbrev pub named : ℕ → Construct → Construct
named number (construct.Statement loc) = construct.Statement loc
named number (construct.Function name declared body) = construct.Function (name_or_anonymous number name) declared body
named number (construct.Branch kind loc paths) = construct.Branch kind loc paths

-- how many functions come before what follows it
abbrev pub number_after : ℕ → Construct → ℕ
number_after number (construct.Statement _) = number
number_after number (construct.Function _ _ _) = number + 1
number_after number (construct.Branch _ _ _) = number

abbrev pub all_named : ℕ → List Construct → List Construct
all_named number [] = []
all_named number (x ∷ rest) = named number x ∷ all_named (number_after number x) rest

-- of a file: those of its statements, each function with a name
abbrev pub constructs_file : File → List Construct
constructs_file (MakeFile body comments) = all_named 0 (within_stmts own_construct tell body (told (heed_comments comments)))
