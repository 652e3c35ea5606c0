-- What becomes of statements, with the counters that stand before them as statements.
use Rattle.std.specs.Prelude.{Bool, true, false, List, Option, None, Some}
use Rattle.js_tree.specs.declared.tree.Stmt as code
use Rattle.js_tree.specs.Tree.{plain_stmts}
use Rattle.js_tree.specs.Plain.{Expr, Stmt, Directive, Block, Return, Stmts, no_stmt, more_stmt, ConciseBody, ExpressionBody, BlockBody, MakeFunctionBody, MaybeStmt, none_stmt, some_stmt, entered_none, some_expr}
use Rattle.cov_rewritten.specs.Rewritten.{joined, inside, block_place}

abbrev pub is_block : Stmt → Bool
is_block (Block l xs) = true
is_block x = false

abbrev pub is_directive : Stmt → Bool
is_directive (Directive l s) = true
is_directive x = false

-- a block of statements and another, or the other alone
abbrev pub block_unless : Stmts → Stmt → Stmt
block_unless no_stmt x = x
block_unless (more_stmt z zs) x = Block (block_place x) (joined (more_stmt z zs) (inside x))

-- an arm of an `if`: a block, where it is said so
abbrev pub arm_of : Bool → Stmts → Stmt → Stmt
arm_of false zs x = x
arm_of true zs x = Block (block_place x) (joined zs (inside x))

-- an arm that is missing: a block of statements, where there are any
abbrev pub missing_of : Stmts → MaybeStmt
missing_of no_stmt = none_stmt
missing_of (more_stmt z zs) = some_stmt (Block None (more_stmt z zs))

-- an arm after `else`
abbrev pub else_of : Bool → Stmts → MaybeStmt → MaybeStmt
else_of in_a_block zs none_stmt = missing_of zs
else_of in_a_block zs (some_stmt x) = some_stmt (arm_of in_a_block zs x)
else_of in_a_block zs (entered_none m) = missing_of zs

-- an arrow's body
abbrev pub concise_of : Stmts → Expr → ConciseBody
concise_of no_stmt e = ExpressionBody e
concise_of (more_stmt z zs) e = BlockBody (MakeFunctionBody None (joined (more_stmt z zs) (more_stmt (Return None (some_expr e)) no_stmt)))

abbrev pub are_some : Stmts → Bool
are_some no_stmt = false
are_some (more_stmt z zs) = true

-- what still waits to be put in
abbrev pub waiting : Option (List code.Stmt) → Stmts
waiting None = no_stmt
waiting (Some list) = plain_stmts list

-- what stands before the next statement: what waits is put in where that is no directive
abbrev pub before_next : Bool → Stmts → Stmts → Stmts
before_next true out zs = out
before_next false out zs = joined out zs

abbrev pub still_waiting : Bool → Option (List code.Stmt) → Option (List code.Stmt)
still_waiting true left = left
still_waiting false left = None
