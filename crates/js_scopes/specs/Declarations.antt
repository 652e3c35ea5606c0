-- The names that a scope declares, in the order of the text (ECMA-262, 8.2: BoundNames, LexicallyDeclaredNames, VarDeclaredNames).
use Rattle.std.specs.Prelude.{ℕ, Bool, true, false, List, [], ◌∷◌, ◌++◌}
use Rattle.js_terms.specs.declared.operators.VariableKind.{VariableKind}
use Rattle.js_terms.specs.declared.operators.VariableKind.TheVariants as variable
use Rattle.js_terms.specs.declared.place.Pos.{Pos}
use Rattle.js_tree.specs.Plain.{Stmt, Block, VariableDeclaration, If, DoWhile, While, For, ForIn, ForOf, Switch, Labelled, TryCatch, TryFinally, TryCatchFinally, FunctionDeclaration, EnteredStmt, Stmts, no_stmt, more_stmt, MaybeStmt, none_stmt, some_stmt, entered_none}
use Rattle.js_tree.specs.Plain.{ForInit, NoInit, InitDeclaration, InitExpression, ForTarget, TargetDeclaration, TargetExpression, Declarators, no_declarator, more_declarator, Declarator, MakeDeclarator}
use Rattle.js_tree.specs.Plain.{Pattern, BindingIdentifier, MaybePattern, none_pattern, some_pattern, Catch, MakeCatch, Case, MakeCase, EnteredCase, Cases, no_case, more_case, Params, no_param, more_param, Param, MakeParam}
use Rattle.js_scopes.specs.declared.binding.Binding.{Binding}
use Rattle.js_scopes.specs.declared.binding.Binding.TheVariants as binding
use Rattle.js_scopes.specs.Mentions.{start}

-- a name that is declared: how, and where
pub record Declared : Type 0 where
  pub how : Binding
  pub at : Pos
  pub name : List ℕ

-- the name of a pattern (BoundNames, 8.2.1)
abbrev pub bound : Binding → Pattern → List Declared
bound how (BindingIdentifier loc name) = record { how = how; at = start loc; name = name } ∷ []

abbrev pub bound_if : Binding → MaybePattern → List Declared
bound_if how none_pattern = []
bound_if how (some_pattern pattern) = bound how pattern

abbrev pub declarator : Binding → Declarator → List Declared
declarator how (MakeDeclarator _ pattern _) = bound how pattern

abbrev pub declarators : Binding → Declarators → List Declared
declarators how no_declarator = []
declarators how (more_declarator x xs) = declarator how x ++ declarators how xs

-- the parameters of a function (15.1)
abbrev pub parameter : Param → List Declared
parameter (MakeParam _ pattern _) = bound binding.Parameter pattern

abbrev pub parameters : Params → List Declared
parameters no_param = []
parameters (more_param x xs) = parameter x ++ parameters xs

-- those of `var` alone, which pass out of blocks (8.2.6): a `let` or `const` stays in its block
abbrev pub var_alone : VariableKind → Declarators → List Declared
var_alone variable.Var xs = declarators binding.Var xs
var_alone kind xs = []

-- those of `let` and `const` alone
abbrev pub lexical_alone : VariableKind → Declarators → List Declared
lexical_alone variable.Var xs = []
lexical_alone kind xs = declarators binding.Lexical xs

abbrev pub var_of_init : ForInit → List Declared
var_of_init NoInit = []
var_of_init (InitDeclaration kind xs) = var_alone kind xs
var_of_init (InitExpression _) = []

abbrev pub var_of_target : ForTarget → List Declared
var_of_target (TargetDeclaration variable.Var pattern) = bound binding.Var pattern
var_of_target target = []

-- ---- the names that statements declare with `var`, those in them included, but none of a function in them (8.2.6)

abbrev mutual
  pub var_stmt : Stmt → List Declared
  var_stmt (Block _ statements) = var_stmts statements
  var_stmt (VariableDeclaration _ kind xs) = var_alone kind xs
  var_stmt (If _ _ holds fails) = var_stmt holds ++ var_stmt_if fails
  var_stmt (DoWhile _ body _) = var_stmt body
  var_stmt (While _ _ body) = var_stmt body
  var_stmt (For _ init _ _ body) = var_of_init init ++ var_stmt body
  var_stmt (ForIn _ target _ body) = var_of_target target ++ var_stmt body
  var_stmt (ForOf _ target _ body) = var_of_target target ++ var_stmt body
  var_stmt (Switch _ _ cases) = var_cases cases
  var_stmt (Labelled _ _ body) = var_stmt body
  var_stmt (TryCatch _ block catch) = var_stmts block ++ var_catch catch
  var_stmt (TryFinally _ block finally) = var_stmts block ++ var_stmts finally
  var_stmt (TryCatchFinally _ block catch finally) = var_stmts block ++ var_catch catch ++ var_stmts finally
  var_stmt (EnteredStmt _ inner) = var_stmt inner
  var_stmt other = []

  pub var_stmts : Stmts → List Declared
  var_stmts no_stmt = []
  var_stmts (more_stmt x xs) = var_stmt x ++ var_stmts xs

  pub var_stmt_if : MaybeStmt → List Declared
  var_stmt_if none_stmt = []
  var_stmt_if (some_stmt x) = var_stmt x
  var_stmt_if (entered_none _) = []

  pub var_catch : Catch → List Declared
  var_catch (MakeCatch _ statements) = var_stmts statements

  pub var_case : Case → List Declared
  var_case (MakeCase _ _ statements) = var_stmts statements
  var_case (EnteredCase _ x) = var_case x

  pub var_cases : Cases → List Declared
  var_cases no_case = []
  var_cases (more_case x xs) = var_case x ++ var_cases xs

-- ---- all names that a list of statements declares in its own scope

-- a function's name is as that of `var` at the top of a file or of a function's body (8.2.8 to 8.2.11), and lexical in a block
abbrev pub function_binding : Bool → Binding
function_binding true = binding.Var
function_binding false = binding.Lexical

-- what a statement declares in the scope that it stands in itself: by `let` and `const`, and as a function (8.2.4)
abbrev pub own_of_stmt : Bool → Stmt → List Declared
own_of_stmt top (VariableDeclaration _ kind xs) = lexical_alone kind xs
own_of_stmt top (FunctionDeclaration _ name _) = record { how = function_binding top; at = start name.loc; name = name.name } ∷ []
own_of_stmt top (EnteredStmt _ inner) = own_of_stmt top inner
own_of_stmt top other = []

-- each statement declares of the one kind or of the other
abbrev pub declared_stmt : Bool → Stmt → List Declared
declared_stmt top x = own_of_stmt top x ++ var_stmt x

abbrev pub declared_stmts : Bool → Stmts → List Declared
declared_stmts top no_stmt = []
declared_stmts top (more_stmt x xs) = declared_stmt top x ++ declared_stmts top xs

-- those of the clauses of a `switch`, which are one scope (14.12)
abbrev pub declared_case : Case → List Declared
declared_case (MakeCase _ _ statements) = declared_stmts false statements
declared_case (EnteredCase _ x) = declared_case x

abbrev pub declared_cases : Cases → List Declared
declared_cases no_case = []
declared_cases (more_case x xs) = declared_case x ++ declared_cases xs

-- those of a `for` head that declares lexical names: these, and the `var` names of the body (14.7.4.1, 14.7.5.1)
abbrev pub head_init : ForInit → Stmt → List Declared
head_init NoInit body = []
head_init (InitDeclaration variable.Var xs) body = []
head_init (InitDeclaration kind xs) body = declarators binding.Lexical xs ++ var_stmt body
head_init (InitExpression _) body = []

abbrev pub head_target : ForTarget → Stmt → List Declared
head_target (TargetDeclaration variable.Var pattern) body = []
head_target (TargetDeclaration kind pattern) body = bound binding.Lexical pattern ++ var_stmt body
head_target (TargetExpression _) body = []
