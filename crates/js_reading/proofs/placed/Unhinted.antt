-- What is counted in a file as if it had no hints: all that hints leave of it is among this.
use Rattle.std.specs.Prelude.{Bool, true, false, List, [], ◌∷◌, ◌++◌, Option, Some, None}
use Rattle.js_terms.specs.declared.construct.BranchKind.TheVariants as branch_kind
use Rattle.js_terms.specs.declared.construct.Construct.{Construct}
use Rattle.js_terms.specs.declared.place.Loc.{Loc}
use Rattle.js_tree.specs.Places.{bare_place, stmt_place, stmt_if_place, case_place, body_place, concise_place}
use Rattle.js_tree.specs.Plain.{Expr, FunctionExpression, ArrowFunction, Conditional, Logical, Parenthesized, Entered}
use Rattle.js_tree.specs.Plain.{Stmt, Directive, Block, VariableDeclaration, Empty, If, Switch, FunctionDeclaration}
use Rattle.js_tree.specs.Plain.{ExpressionBody, Method}
use Rattle.js_tree.specs.Plain.{Declarator, MakeDeclarator, MakeParam, Cases, no_case, more_case}
use Rattle.js_tree.specs.Plain.{MaybeExpr, none_expr, some_expr, MaybeStmt}
use Rattle.js_walk.specs.Constructs.{counted, branch, counted_function}
use Rattle.js_walk.specs.Part.{Part, AnExpr, AStmt, AProperty, AConciseBody, AParam, ADeclarator}
use Rattle.js_walk.specs.Walk.{visit, within_expr, within_stmt, within_declarator}

-- the cases of a `switch`
abbrev pub case_places : Cases → List (Option Loc)
case_places no_case = []
case_places (more_case x cases) = case_place x ∷ case_places cases

-- the leaves of a chain of logical operators, parentheses notwithstanding
abbrev pub leaf_places : Expr → List (Option Loc)
leaf_places (Logical _ _ left right) = leaf_places left ++ leaf_places right
leaf_places (Parenthesized _ inner) = leaf_places inner
leaf_places (Entered _ inner) = leaf_places inner
leaf_places leaf = bare_place leaf ∷ []

-- an initializer is counted as a statement
abbrev pub counted_initializer : MaybeExpr → List Construct
counted_initializer none_expr = []
counted_initializer (some_expr e) = counted (bare_place e)

-- the branch of an `if`: its first path has the place of the whole statement, the second that of the arm after `else`
abbrev pub if_branch : Option Loc → MaybeStmt → List Construct
if_branch loc fails = branch branch_kind.If loc (loc ∷ stmt_if_place fails ∷ [])

-- a directive, a block, an empty statement and a declaration of variables are none; an `if` and a `switch` come before their
-- branch
abbrev pub own_stmt : Stmt → List Construct
own_stmt (Directive _ _) = []
own_stmt (Block _ _) = []
own_stmt (VariableDeclaration _ _ _) = []
own_stmt (Empty _) = []
own_stmt (FunctionDeclaration loc name function) = counted_function loc (Some name) (body_place function)
own_stmt (If loc _ _ fails) = counted loc ++ if_branch loc fails
own_stmt (Switch loc _ cases) = counted loc ++ branch branch_kind.Switch loc (case_places cases)
own_stmt stmt = counted (stmt_place stmt)

-- a function; a condition; a chain of logical operators, unless it goes on a chain that it is in
abbrev pub own_expr : Bool → Expr → List Construct
own_expr _ (FunctionExpression loc name function) = counted_function loc name (body_place function)
own_expr _ (ArrowFunction loc _ _ body) = counted_function loc None (concise_place body)
own_expr _ (Conditional loc _ holds fails) = branch branch_kind.Conditional loc (bare_place holds ∷ bare_place fails ∷ [])
own_expr false (Logical loc _ left right) = branch branch_kind.Logical loc (leaf_places left ++ leaf_places right)
own_expr _ _ = []

-- a part, where it is said whether it is an operand of a chain; a method starts with its property
abbrev pub own_construct : Bool → Part → List Construct
own_construct _ (AStmt stmt) = own_stmt stmt
own_construct chained (AnExpr expr) = own_expr chained expr
own_construct _ (AProperty (Method loc _ function)) = counted_function loc None (body_place function)
own_construct _ (ADeclarator (MakeDeclarator _ _ initializer)) = counted_initializer initializer
own_construct _ (AParam (MakeParam loc _ (some_expr default))) = branch branch_kind.Default loc (bare_place default ∷ [])
own_construct _ (AConciseBody (ExpressionBody value)) = counted (bare_place value)
own_construct _ _ = []

-- an operand of a chain is a part of a logical operator, or stands in parentheses that are one
abbrev pub chained_in : Bool → Part → Option Bool
chained_in chained (AnExpr (Logical _ _ _ _)) = Some true
chained_in chained (AnExpr (Parenthesized _ _)) = Some chained
chained_in _ _ = Some false

-- an expression and what is in it
abbrev pub constructs_expr : Expr → List Construct
constructs_expr e = visit own_construct chained_in false (AnExpr e) (within_expr own_construct chained_in e)

abbrev pub constructs_stmt : Stmt → List Construct
constructs_stmt s = visit own_construct chained_in false (AStmt s) (within_stmt own_construct chained_in s)

abbrev pub constructs_declarator : Declarator → List Construct
constructs_declarator d = visit own_construct chained_in false (ADeclarator d) (within_declarator own_construct chained_in d)
