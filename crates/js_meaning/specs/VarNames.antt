-- The names that `var` declares in a function's body (ECMA-262, 8.2.6, VarDeclaredNames), in the order of its text, as the early rules
-- have them; and how a walk through the body meets them.
use Rattle.std.specs.Prelude.{◌≡◌, ℕ, Bool, true, false, List, [], ◌∷◌, map, Option, Some, None}
use Rattle.js_terms.specs.declared.operators.VariableKind.{VariableKind}
use Rattle.js_terms.specs.declared.operators.VariableKind.TheVariants as variable
use Rattle.js_tree.specs.Plain.{VariableDeclaration, InitDeclaration, TargetDeclaration, BindingIdentifier, Stmts}
use Rattle.js_walk.specs.Part.{Part, AnExpr, AStmt, AForInit, AForTarget, AFunction, ADeclarator, APattern}
use Rattle.js_walk.specs.Walk.{within_stmts}
use Rattle.js_scopes.specs.Declarations.{Declared}
use Rattle.js_scopes.specs.Declarations as scopes

abbrev pub declared_names : List Declared → List (List ℕ)
declared_names ds = map (λ d. d.name) ds

abbrev pub var_stmts : Stmts → List (List ℕ)
var_stmts xs = declared_names (scopes.var_stmts xs)

-- A walk

-- `let` and `const` declare none of them
abbrev pub is_var : VariableKind → Bool
is_var variable.Var = true
is_var variable.Let = false
is_var variable.Const = false

-- a pattern gives its name (8.2.1, BoundNames), where `var` declares it
abbrev pub own_var : Bool → Part → List (List ℕ)
own_var true (APattern (BindingIdentifier _ name)) = name ∷ []
own_var _ _ = []

-- whether `var` declares the patterns that are next in a part; functions and expressions are passed over
abbrev pub declares : Bool → Part → Option Bool
declares _ (AStmt (VariableDeclaration _ kind _)) = Some (is_var kind)
declares _ (AForInit (InitDeclaration kind _)) = Some (is_var kind)
declares _ (AForTarget (TargetDeclaration kind _)) = Some (is_var kind)
declares declared (ADeclarator _) = Some declared
declares _ (AFunction _) = None
declares _ (AnExpr _) = None
declares _ _ = Some false

-- a walk that starts where nothing is declared meets these names
abbrev pub MeetsVarNames : Type 0
MeetsVarNames = (xs : Stmts) → within_stmts own_var declares xs false ≡ var_stmts xs
