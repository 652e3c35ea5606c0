-- Which names a scope declares though it may not (ECMA-262: 14.2.1, 14.7.4.1, 14.7.5.1, 14.12.1, 14.15.1, 15.2.1, 15.3.1, 16.1.1).
use Rattle.std.specs.Prelude.{Bool, true, false, ◌&&◌, List, [], ◌∷◌, ◌++◌, None, codes, if◌then◌else◌}
use Rattle.std.specs.List.{list_any}
use Rattle.std.specs.Str.{bytes_eq}
use Rattle.js_tree.specs.Plain.{Expr, ArrowFunction, Stmt, Block, For, ForIn, ForOf, Switch, TryCatch, TryFinally, TryCatchFinally, Stmts, Catch, MakeCatch, ConciseBody, ExpressionBody, BlockBody, Function, MakeFunction, FunctionBody, MakeFunctionBody, EnteredBody, File, MakeFile}
use Rattle.js_walk.specs.Part.{Part, AnExpr, AStmt, AFunction, ACatch}
use Rattle.js_scopes.specs.declared.binding.Binding.{Binding}
use Rattle.js_scopes.specs.declared.binding.Binding.TheVariants as binding
use Rattle.js_scopes.specs.declared.fault.ScopeFault.{ScopeFault}
use Rattle.js_scopes.specs.declared.fault.ScopeFaultKind.TheVariants as kind
use Rattle.js_scopes.specs.Declarations.{Declared, parameters, bound_if, declared_stmts, declared_cases, head_init, head_target}
use Rattle.js_scopes.specs.Labels.{nothing_around, jumps_stmts}
use Rattle.js_scopes.specs.Mentions.{start}
use Rattle.js_scopes.specs.Targets.{deletes}

-- a name that is declared once may not be declared again: the earlier, and the later
abbrev pub clashes : Binding → Binding → Bool
clashes binding.Parameter binding.Parameter = true
clashes binding.Parameter binding.Lexical = true
clashes binding.CatchName binding.Lexical = true
clashes binding.CatchName binding.Var = true
clashes binding.Lexical binding.Lexical = true
clashes binding.Lexical binding.Var = true
clashes binding.Var binding.Lexical = true
clashes earlier later = false

abbrev pub clash : Declared → Declared → Bool
clash later earlier = bytes_eq later.name earlier.name && clashes earlier.how later.how

-- the later of two names that clash, for each that does with one before it; of these the nearest stands first
abbrev pub repeated : List Declared → List Declared → List ScopeFault
repeated before [] = []
repeated before (d ∷ ds) = (if list_any (clash d) before then record { at = d.at; kind = kind.Duplicate } ∷ [] else []) ++ repeated (d ∷ before) ds

-- the faults of a scope that declares these
abbrev pub scope : List Declared → List ScopeFault
scope ds = repeated [] ds

-- ---- a body: its parameters and its statements are one scope, and no label is seen from outside

abbrev pub body_of : FunctionBody → Stmts
body_of (MakeFunctionBody _ statements) = statements
body_of (EnteredBody _ body) = body_of body

abbrev pub body : List Declared → Stmts → List ScopeFault
body before statements = scope (before ++ declared_stmts true statements) ++ jumps_stmts statements nothing_around

abbrev pub concise : List Declared → ConciseBody → List ScopeFault
concise before (ExpressionBody _) = scope before
concise before (BlockBody inner) = body before (body_of inner)

-- a file is the body of a function of these parameters
abbrev pub module_names : List Declared
module_names =
    record { how = binding.Parameter; at = start None; name = codes "exports" }
    ∷ record { how = binding.Parameter; at = start None; name = codes "require" }
    ∷ record { how = binding.Parameter; at = start None; name = codes "module" } ∷ []

-- ---- what each part declares in a scope of its own

abbrev pub block : Stmts → List ScopeFault
block statements = scope (declared_stmts false statements)

abbrev pub own_of_expr : Expr → List ScopeFault
own_of_expr (ArrowFunction _ _ params inner) = concise (parameters params) inner
own_of_expr other = []

abbrev pub own_of_stmt : Stmt → List ScopeFault
own_of_stmt (Block _ statements) = block statements
own_of_stmt (For _ init _ _ inner) = scope (head_init init inner)
own_of_stmt (ForIn _ target _ inner) = scope (head_target target inner)
own_of_stmt (ForOf _ target _ inner) = scope (head_target target inner)
own_of_stmt (Switch _ _ cases) = scope (declared_cases cases)
own_of_stmt (TryCatch _ tried _) = block tried
own_of_stmt (TryFinally _ tried finally) = block tried ++ block finally
own_of_stmt (TryCatchFinally _ tried _ finally) = block tried ++ block finally
own_of_stmt other = []

abbrev pub own_of_function : Function → List ScopeFault
own_of_function (MakeFunction _ params inner) = body (parameters params) (body_of inner)

-- a catch's name and what its block declares
abbrev pub own_of_catch : Catch → List ScopeFault
own_of_catch (MakeCatch parameter statements) = scope (bound_if binding.CatchName parameter ++ declared_stmts false statements)

abbrev pub own_of_part : Unit {0} → Part → List ScopeFault
own_of_part _ (AnExpr expr) = own_of_expr expr ++ deletes expr
own_of_part _ (AStmt stmt) = own_of_stmt stmt
own_of_part _ (AFunction function) = own_of_function function
own_of_part _ (ACatch catch) = own_of_catch catch
own_of_part _ other = []

abbrev pub own_of_file : File → List ScopeFault
own_of_file (MakeFile statements _) = body module_names statements
