-- A statement's production makes no expression.
use Rattle.std.proofs.Common.{◌≡◌, true, false, not, ◌&&◌, List, [], ◌∷◌, Option, Some, None, if◌then◌else◌}
use Rattle.std.specs.Prelude.{◌||◌}
use Rattle.std.proofs.lemmas.Bool.{true≢false}
use Rattle.js_terms.specs.declared.place.Loc.{Loc}
use Rattle.js_terms.specs.declared.operators.VariableKind.{VariableKind}
use Rattle.js_tree.specs.Plain.{Expr, Stmt}
use Rattle.js_tree.specs.Plain as tree
use Rattle.js_reading.specs.Slots.{Piece, AnExpr, AStmt, TheStmts, AWord, AKind, Missing, IsIn, IsOf, Form}
use Rattle.js_reading.specs.Slots as slot
use Rattle.js_reading.specs.Makes.{build, is_target, is_async, is_const, variables_of, declarators_of, declaration_of, function_of, for_of, for_declared, for_parts, switch_of, cases_of}
use Rattle.js_reading.proofs.levels.Makings.{is_first, is_join}

abbrev pub NoExpr : Option Piece → Type 0
NoExpr (Some (AnExpr i e)) = ⊥
NoExpr o = Unit {0}

no_variables : (l : Loc) (k : VariableKind) (o : Option (tree.Declarators × List Piece)) → NoExpr (variables_of l k o)
no_variables l k (Some (ds, [])) = tt
no_variables l k (Some (ds, p ∷ ps)) = tt
no_variables l k None = tt

no_for : (l : Loc) (x : tree.ForInit) (ps : List Piece) → NoExpr (for_of l x ps)
no_for l x (Missing ∷ Missing ∷ AStmt s ∷ []) = tt
no_for l x (Missing ∷ AnExpr i e ∷ AStmt s ∷ []) = tt
no_for l x (AnExpr i e ∷ Missing ∷ AStmt s ∷ []) = tt
no_for l x (AnExpr i e ∷ AnExpr j r ∷ AStmt s ∷ []) = tt
no_for l x (Missing ∷ q ∷ AStmt s ∷ []) = tt
no_for l x (AnExpr i e ∷ q ∷ AStmt s ∷ []) = tt
no_for l x (p ∷ q ∷ AStmt s ∷ []) = tt
no_for l x [] = tt
no_for l x (p ∷ []) = tt
no_for l x (p ∷ q ∷ []) = tt
no_for l x (p ∷ q ∷ AStmt s ∷ r ∷ ps) = tt
no_for l x (p ∷ q ∷ r ∷ ps) = tt

no_declared : (l : Loc) (k : VariableKind) (o : Option (tree.Declarators × List Piece)) → NoExpr (for_declared l k o)
no_declared l k None = tt
no_declared l k (Some found) = no_for l (tree.InitDeclaration k found.0) found.1

no_parts : (l : Loc) (ps : List Piece) → NoExpr (for_parts l ps)
no_parts l (AKind k ∷ AWord w m ∷ IsIn ∷ AnExpr i e ∷ AStmt s ∷ []) = tt
no_parts l (AKind k ∷ AWord w m ∷ IsOf ∷ AnExpr i e ∷ AStmt s ∷ []) = tt
no_parts l (AKind k ∷ ps) = no_declared l k (declarators_of (is_const k) ps)
no_parts l (AnExpr j x ∷ IsIn ∷ AnExpr i e ∷ AStmt s ∷ []) = elim (is_target x) as (λ t. NoExpr (if t then Some (AStmt (tree.ForIn (Some l) (tree.TargetExpression x) e s)) else None)) [ true ↦ tt | false ↦ tt ]
no_parts l (AnExpr j x ∷ IsOf ∷ AnExpr i e ∷ AStmt s ∷ []) = elim (is_target x && not (is_async x)) as (λ t. NoExpr (if t then Some (AStmt (tree.ForOf (Some l) (tree.TargetExpression x) e s)) else None)) [ true ↦ tt | false ↦ tt ]
no_parts l (AnExpr j x ∷ ps) = no_for l (tree.InitExpression x) ps
no_parts l (Missing ∷ ps) = no_for l tree.NoInit ps
no_parts l ps = tt

no_declaration : (make : tree.Function → Stmt) (o : Option tree.Function) → NoExpr (declaration_of make o)
no_declaration make None = tt
no_declaration make (Some f) = tt

pub no_expr_made : (f : Form) (l : Loc) (ps : List Piece) → (is_first f || is_join f) ≡ false → NoExpr (build f l ps)
no_expr_made slot.Expression l (AnExpr i e ∷ []) is = tt
no_expr_made slot.Expression l ps is = tt
no_expr_made slot.Labelled l (AnExpr i (tree.IdentifierReference m w) ∷ AStmt s ∷ []) is = tt
no_expr_made slot.Labelled l ps is = tt
no_expr_made slot.Block l (TheStmts ss ∷ []) is = tt
no_expr_made slot.Block l ps is = tt
no_expr_made (slot.Variables k) l ps is = no_variables l k (declarators_of (is_const k) ps)
no_expr_made slot.FunctionDeclaration l (AWord w m ∷ ps) is = no_declaration _ (function_of ps)
no_expr_made slot.FunctionDeclaration l ps is = tt
no_expr_made slot.Empty l [] is = tt
no_expr_made slot.Empty l ps is = tt
no_expr_made slot.If l (AnExpr i c ∷ AStmt s ∷ Missing ∷ []) is = tt
no_expr_made slot.If l (AnExpr i c ∷ AStmt s ∷ AStmt r ∷ []) is = tt
no_expr_made slot.If l ps is = tt
no_expr_made slot.For l ps is = no_parts l ps
no_expr_made slot.While l (AnExpr i c ∷ AStmt s ∷ []) is = tt
no_expr_made slot.While l ps is = tt
no_expr_made slot.DoWhile l (AStmt s ∷ AnExpr i c ∷ []) is = tt
no_expr_made slot.DoWhile l ps is = tt
no_expr_made slot.Continue l (Missing ∷ []) is = tt
no_expr_made slot.Continue l (AWord w m ∷ []) is = tt
no_expr_made slot.Continue l ps is = tt
no_expr_made slot.Break l (Missing ∷ []) is = tt
no_expr_made slot.Break l (AWord w m ∷ []) is = tt
no_expr_made slot.Break l ps is = tt
no_expr_made slot.Return l (Missing ∷ []) is = tt
no_expr_made slot.Return l (AnExpr i e ∷ []) is = tt
no_expr_made slot.Return l ps is = tt
no_expr_made slot.Switch l (AnExpr i e ∷ ps) is = elim (cases_of false ps) as (λ o. NoExpr (switch_of l e o)) [ None ↦ tt | Some cs ↦ tt ]
no_expr_made slot.Switch l ps is = tt
no_expr_made slot.Throw l (AnExpr i e ∷ []) is = tt
no_expr_made slot.Throw l ps is = tt
no_expr_made slot.Try l (TheStmts b ∷ TheStmts f ∷ []) is = tt
no_expr_made slot.Try l (TheStmts b ∷ Missing ∷ TheStmts c ∷ Missing ∷ []) is = tt
no_expr_made slot.Try l (TheStmts b ∷ AWord w m ∷ TheStmts c ∷ Missing ∷ []) is = tt
no_expr_made slot.Try l (TheStmts b ∷ Missing ∷ TheStmts c ∷ TheStmts f ∷ []) is = tt
no_expr_made slot.Try l (TheStmts b ∷ AWord w m ∷ TheStmts c ∷ TheStmts f ∷ []) is = tt
no_expr_made slot.Try l ps is = tt
no_expr_made slot.Debugger l [] is = tt
no_expr_made slot.Debugger l ps is = tt
no_expr_made f l ps is = absurd (true≢false is)
