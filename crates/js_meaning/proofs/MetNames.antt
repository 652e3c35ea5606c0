-- A walk meets the names that `var` declares.
use Rattle.std.proofs.Common.{◌≡◌, ℕ, Bool, true, false, List, [], ◌∷◌, ◌++◌, refl, sym, ap, ◌∙◌}
use Rattle.std.proofs.lemmas.List.{map-append}
use Rattle.js_terms.specs.declared.operators.VariableKind.{VariableKind}
use Rattle.js_terms.specs.declared.operators.VariableKind.TheVariants as variable
use Rattle.js_tree.specs.Plain as P
use Rattle.js_tree.specs.Plain.{MaybeExpr, none_expr, some_expr, Stmt, Block, VariableDeclaration, If, DoWhile, While, For, ForIn, ForOf, Switch, Labelled, TryCatch, TryFinally, TryCatchFinally, EnteredStmt, no_stmt, more_stmt, MaybeStmt, none_stmt, some_stmt, entered_none}
use Rattle.js_tree.specs.Plain.{MakeDeclarator, Declarators, no_declarator, more_declarator, ForInit, NoInit, InitDeclaration, InitExpression, ForTarget, TargetDeclaration, TargetExpression, Cases, no_case, more_case, Case, MakeCase, EnteredCase, Catch, MakeCatch, none_pattern, some_pattern, BindingIdentifier}
use Rattle.js_walk.specs.Part.{AStmt, AForInit, AForTarget, ACase, ACatch}
use Rattle.js_walk.specs.Walk.{visit, within_stmt, within_stmt_if, within_expr_if, within_for_init, within_for_target, within_declarators, within_case, within_cases, within_catch}
use Rattle.js_scopes.specs.declared.binding.Binding.TheVariants as binding
use Rattle.js_scopes.specs.Declarations as scopes
use Rattle.js_meaning.specs.VarNames.{declared_names, own_var, declares, is_var, MeetsVarNames}

joined : (ds es : List scopes.Declared) {a b : List (List ℕ)} → a ≡ declared_names ds → b ≡ declared_names es → a ++ b ≡ declared_names (ds ++ es)
joined ds es {b = b} p q = ap (λ x. x ++ b) p ∙ ap (λ x. declared_names ds ++ x) q ∙ sym (map-append (λ (d : scopes.Declared). d.name) ds es)

-- what gives no name, after what gives some
nothing : (xs : List (List ℕ)) → xs ++ [] ≡ xs
nothing [] = refl
nothing (x ∷ xs) = ap (λ ys. x ∷ ys) (nothing xs)

then_none : {a b c : List (List ℕ)} → a ≡ c → b ≡ [] → a ++ b ≡ c
then_none {a = a} p q = ap (λ x. a ++ x) q ∙ nothing a ∙ p

none_then : {a b c : List (List ℕ)} → a ≡ [] → b ≡ c → a ++ b ≡ c
none_then {b = b} p q = ap (λ x. x ++ b) p ∙ q

expr_if : (b : Bool) (e : MaybeExpr) → within_expr_if own_var declares e b ≡ []
expr_if true none_expr = refl
expr_if true (some_expr e) = refl
expr_if false none_expr = refl
expr_if false (some_expr e) = refl

var_declarators : (ds : Declarators) → within_declarators own_var declares ds true ≡ declared_names (scopes.declarators binding.Var ds)
var_declarators no_declarator = refl
var_declarators (more_declarator (MakeDeclarator loc (BindingIdentifier place name) e) ds) =
    ap (λ x. (name ∷ x) ++ within_declarators own_var declares ds true) (expr_if true e) ∙ ap (λ x. name ∷ x) (var_declarators ds)

no_declarators : (ds : Declarators) → within_declarators own_var declares ds false ≡ []
no_declarators no_declarator = refl
no_declarators (more_declarator (MakeDeclarator loc (BindingIdentifier place name) e) ds) =
    ap (λ x. x ++ within_declarators own_var declares ds false) (expr_if false e) ∙ no_declarators ds

of_kind : (kind : VariableKind) (ds : Declarators) → within_declarators own_var declares ds (is_var kind) ≡ declared_names (scopes.var_alone kind ds)
of_kind variable.Var ds = var_declarators ds
of_kind variable.Let ds = no_declarators ds
of_kind variable.Const ds = no_declarators ds

init : (x : ForInit) → visit own_var declares false (AForInit x) (within_for_init own_var declares x) ≡ declared_names (scopes.var_of_init x)
init NoInit = refl
init (InitDeclaration kind ds) = of_kind kind ds
init (InitExpression e) = refl

target : (x : ForTarget) → visit own_var declares false (AForTarget x) (within_for_target own_var declares x) ≡ declared_names (scopes.var_of_target x)
target (TargetDeclaration variable.Var (BindingIdentifier place name)) = refl
target (TargetDeclaration variable.Let (BindingIdentifier place name)) = refl
target (TargetDeclaration variable.Const (BindingIdentifier place name)) = refl
target (TargetExpression e) = refl

mutual
  met : (x : Stmt) → visit own_var declares false (AStmt x) (within_stmt own_var declares x) ≡ declared_names (scopes.var_stmt x)
  met (Block loc xs) = met_all xs
  met (VariableDeclaration loc kind ds) = of_kind kind ds
  met (If loc test holds fails) = joined _ _ (met holds) (met_if fails)
  met (DoWhile loc body test) = then_none (met body) refl
  met (While loc test body) = met body
  met (For loc start test update body) = joined _ _ (then_none (then_none (init start) (expr_if false test)) (expr_if false update)) (met body)
  met (ForIn loc x e body) = joined _ _ (then_none (target x) refl) (met body)
  met (ForOf loc x e body) = joined _ _ (then_none (target x) refl) (met body)
  met (P.Return loc e) = expr_if false e
  met (Switch loc e cases) = met_cases cases
  met (Labelled loc label body) = met body
  met (TryCatch loc block catch) = joined _ _ (met_all block) (met_catch catch)
  met (TryFinally loc block finally) = joined _ _ (met_all block) (met_all finally)
  met (TryCatchFinally loc block catch finally) = joined _ _ (joined _ _ (met_all block) (met_catch catch)) (met_all finally)
  met (EnteredStmt mark x) = met x
  met _ = refl

  pub met_all : MeetsVarNames
  met_all no_stmt = refl
  met_all (more_stmt x xs) = joined _ _ (met x) (met_all xs)

  met_if : (x : MaybeStmt) → within_stmt_if own_var declares x false ≡ declared_names (scopes.var_stmt_if x)
  met_if none_stmt = refl
  met_if (some_stmt x) = met x
  met_if (entered_none mark) = refl

  met_case : (x : Case) → visit own_var declares false (ACase x) (within_case own_var declares x) ≡ declared_names (scopes.var_case x)
  met_case (MakeCase loc test xs) = none_then (expr_if false test) (met_all xs)
  met_case (EnteredCase mark x) = met_case x

  met_cases : (xs : Cases) → within_cases own_var declares xs false ≡ declared_names (scopes.var_cases xs)
  met_cases no_case = refl
  met_cases (more_case x xs) = joined _ _ (met_case x) (met_cases xs)

  met_catch : (x : Catch) → visit own_var declares false (ACatch x) (within_catch own_var declares x) ≡ declared_names (scopes.var_catch x)
  met_catch (MakeCatch none_pattern xs) = met_all xs
  met_catch (MakeCatch (some_pattern (BindingIdentifier place name)) xs) = met_all xs
