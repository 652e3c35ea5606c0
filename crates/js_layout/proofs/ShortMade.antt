-- What each production makes is charged no more than its pieces and its signs pay.
use Rattle.std.proofs.Common.{ℕ, ◌+◌, ◌≤◌, Bool, true, false, not, ◌&&◌, List, [], ◌∷◌, length, Option, Some, None, if◌then◌else◌, arith}
use Rattle.js_terms.specs.declared.place.Loc.{Loc}
use Rattle.js_terms.specs.declared.operators.VariableKind.{VariableKind}
use Rattle.js_terms.specs.declared.operators.LogicalOperator.TheVariants as logic
use Rattle.js_tree.specs.Plain.{Expr, no_expr, more_expr, Stmt, MaybeExpr, none_expr, some_expr}
use Rattle.js_tree.specs.Plain as tree
use Rattle.js_reading.specs.Level.{assignment}
use Rattle.js_reading.specs.Slots.{Piece, AnExpr, AStmt, TheStmts, TheExprs, AWord, AText, AKind, Missing, IsIn, IsOf}
use Rattle.js_reading.specs.declared.form.Form.{Form}
use Rattle.js_reading.specs.declared.form.Form.TheVariants as form
use Rattle.js_reading.specs.Productions.{update_of, assignment_sign, variable_word, slots}
use Rattle.js_reading.specs.Makes.{is_target, is_async, is_and_or, loc_of, function_of, params_of, concise, declarators_of, is_const, variables_of, maybe, for_with, for_of, for_declared, for_parts, length_of, build}
use Rattle.js_spelling.proofs.Alone.{some_spelling}
use Rattle.js_layout.proofs.ShortSizes.{size_stmt, size_maybe, size_init}
use Rattle.js_layout.proofs.ShortPieces.{size_items, sizes_items, cost, costs, paid, debt, Pays}
use Rattle.js_layout.proofs.ShortParts.{comma_size, function_made, params_made, concise_made, arrow_made, expression_made, declaration_made, object_made, template_made, OfDeclarators, declarators_made, switch_made}
use Rattle.js_layout.proofs.ShortSigns.{sign_long, prefix_long, variable_long, variable_short}

-- ---- declarations of variables, and heads of `for`

variables_made : (n h : ℕ) (l : Loc) (k : VariableKind) (o : Option (tree.Declarators × List Piece)) → OfDeclarators h o → length (variable_word k) + (h + 3) ≤ n → Pays n (variables_of l k o)
variables_made n h l k None is le = tt
variables_made n h l k (Some (ds, [])) is le = omega (arith, is, le)
variables_made n h l k (Some (ds, r ∷ rest)) is le = tt

abbrev Maybes : ℕ → Option MaybeExpr → Type 0
Maybes h None = Unit {0}
Maybes h (Some x) = size_maybe x ≤ h

maybe_made : (p : Piece) → Maybes (cost p) (maybe p)
maybe_made Missing = omega arith
maybe_made (AnExpr i e) = omega arith
maybe_made p = tt

for_with_made : (n h k : ℕ) (l : Loc) (x : tree.ForInit) (s : Stmt) (y z : Option MaybeExpr) → Maybes h y → Maybes k z → size_init x + (h + (k + (size_stmt s + 12))) ≤ n → Pays n (for_with l x s y z)
for_with_made n h k l x s (Some y) (Some z) one two le = omega (arith, one, two, le)
for_with_made n h k l x s None z one two le = tt
for_with_made n h k l x s (Some y) None one two le = tt

for_of_made : (n : ℕ) (l : Loc) (x : tree.ForInit) (rest : List Piece) → size_init x + (costs rest + 12) ≤ n → Pays n (for_of l x rest)
for_of_made n l x (p ∷ q ∷ AStmt s ∷ []) le = for_with_made n (cost p) (cost q) l x s (maybe p) (maybe q) (maybe_made p) (maybe_made q) (omega (arith, le))
for_of_made n l x rest le = tt

for_declared_made : (n h : ℕ) (l : Loc) (k : VariableKind) (o : Option (tree.Declarators × List Piece)) → OfDeclarators h o → h + 18 ≤ n → Pays n (for_declared l k o)
for_declared_made n h l k None is le = tt
for_declared_made n h l k (Some (ds, rest)) is le = for_of_made n l (tree.InitDeclaration k ds) rest (omega (arith, is, le, variable_short k))

if_pays : (b : Bool) (n : ℕ) (o : Option Piece) → Pays n o → Pays n (if b then o else None)
if_pays true n o is = is
if_pays false n o is = tt

unless_pays : (b : Bool) (n : ℕ) (o : Option Piece) → Pays n o → Pays n (if b then None else o)
unless_pays true n o is = tt
unless_pays false n o is = is

for_made : (n : ℕ) (l : Loc) (ps : List Piece) → costs ps + 32 ≤ n → Pays n (for_parts l ps)
for_made n l (AKind k ∷ AWord w m ∷ IsIn ∷ AnExpr i e ∷ AStmt s ∷ []) le = omega (arith, le, variable_short k)
for_made n l (AKind k ∷ AWord w m ∷ IsOf ∷ AnExpr i e ∷ AStmt s ∷ []) le = omega (arith, le, variable_short k)
for_made n l (AnExpr j x ∷ IsIn ∷ AnExpr i e ∷ AStmt s ∷ []) le = if_pays (is_target x) n (Some (AStmt (tree.ForIn (Some l) (tree.TargetExpression x) e s))) (omega (arith, le))
for_made n l (AnExpr j x ∷ IsOf ∷ AnExpr i e ∷ AStmt s ∷ []) le = if_pays (is_target x && not (is_async x)) n (Some (AStmt (tree.ForOf (Some l) (tree.TargetExpression x) e s))) (omega (arith, le))
for_made n l (AKind k ∷ ps) le = for_declared_made n (costs ps) l k (declarators_of (is_const k) ps) (declarators_made (is_const k) ps) (omega (arith, le))
for_made n l (AnExpr j x ∷ ps) le = for_of_made n l (tree.InitExpression x) ps (omega (arith, le))
for_made n l (Missing ∷ ps) le = for_of_made n l tree.NoInit ps (omega (arith, le))
for_made n l ps le = tt

-- ---- all productions

pub short_made : (f : Form) (l : Loc) (ps : List Piece) (n : ℕ) → costs ps + paid (slots f) ≤ n + debt (slots f) → Pays n (build f l ps)
short_made form.Parentheses l (TheExprs false (more_expr e es) ∷ Missing ∷ []) n le = omega (arith, le, comma_size loc_of e es)
short_made form.Parentheses l (TheExprs b xs ∷ p ∷ ps) n le = arrow_made n (size_items xs) (costs (p ∷ ps)) l (params_of xs) (concise (p ∷ ps)) (params_made xs) (concise_made (p ∷ ps)) (omega (arith, le))
short_made form.Parentheses l ps n le = tt
short_made form.ArrayLiteral l (TheExprs b xs ∷ []) n le = omega (arith, le, sizes_items xs)
short_made form.ArrayLiteral l ps n le = tt
short_made form.ObjectLiteral l ps n le = object_made n (length_of ps) l ps (omega (arith, le))
short_made form.Template l (AText s ∷ ps) n le = template_made n l s ps (omega (arith, le))
short_made form.Template l ps n le = tt
short_made form.FunctionExpression l (Missing ∷ ps) n le = expression_made n (costs ps) 13 _ (function_of ps) (λ f. omega arith) (function_made ps) (omega (arith, le))
short_made form.FunctionExpression l (AWord w m ∷ ps) n le = expression_made n (costs ps) (length w + 14) _ (function_of ps) (λ f. omega arith) (function_made ps) (omega (arith, le))
short_made form.FunctionExpression l ps n le = tt
short_made form.New l (AnExpr i c ∷ TheExprs b xs ∷ []) n le = omega (arith, le, sizes_items xs)
short_made form.New l (AnExpr i c ∷ Missing ∷ []) n le = omega (arith, le)
short_made form.New l ps n le = tt
short_made form.Call l (AnExpr i f ∷ TheExprs b xs ∷ []) n le = omega (arith, le, sizes_items xs)
short_made form.Call l ps n le = tt
short_made form.Dot l (AnExpr i o ∷ AWord w m ∷ []) n le = omega (arith, le)
short_made form.Dot l ps n le = tt
short_made form.Member l (AnExpr i o ∷ AnExpr j k ∷ []) n le = omega (arith, le)
short_made form.Member l ps n le = tt
short_made (form.Postfix o) l (AnExpr i e ∷ []) n le = if_pays (is_target e) n (Some (AnExpr 17 (tree.PostfixUpdate (Some l) o e))) (omega (arith, le, some_spelling (update_of o)))
short_made (form.Postfix o) l ps n le = tt
short_made (form.PrefixUpdate o) l (AnExpr i e ∷ []) n le = if_pays (is_target e) n (Some (AnExpr 17 (tree.PrefixUpdate (Some l) o e))) (omega (arith, le, some_spelling (update_of o)))
short_made (form.PrefixUpdate o) l ps n le = tt
short_made (form.Unary o) l (AnExpr i e ∷ []) n le = omega (arith, le, prefix_long o)
short_made (form.Unary o) l ps n le = tt
short_made (form.Binary o) l (AnExpr i x ∷ AnExpr j y ∷ []) n le = omega (arith, le, sign_long o)
short_made (form.Binary o) l ps n le = tt
short_made (form.Logical logic.Coalesce) l (AnExpr i x ∷ AnExpr j y ∷ []) n le = unless_pays (is_and_or x) n (Some (AnExpr 4 (tree.Logical (Some l) logic.Coalesce x y))) (omega (arith, le))
short_made (form.Logical logic.And) l (AnExpr i x ∷ AnExpr j y ∷ []) n le = omega (arith, le)
short_made (form.Logical logic.Or) l (AnExpr i x ∷ AnExpr j y ∷ []) n le = omega (arith, le)
short_made (form.Logical logic.Coalesce) l ps n le = tt
short_made (form.Logical o) l ps n le = tt
short_made form.Conditional l (AnExpr j c ∷ AnExpr i x ∷ AnExpr k y ∷ []) n le = omega (arith, le)
short_made form.Conditional l ps n le = tt
short_made (form.Assignment o) l (AnExpr i x ∷ AnExpr j v ∷ []) n le = if_pays (is_target x) n (Some (AnExpr assignment (tree.Assignment (Some l) o x v))) (omega (arith, le, some_spelling (assignment_sign o)))
short_made (form.Assignment o) l ps n le = tt
short_made form.ArrowOfName l (AnExpr i (tree.IdentifierReference m w) ∷ ps) n le = arrow_made n (size_items (more_expr (tree.IdentifierReference m w) no_expr)) (costs ps) l (params_of (more_expr (tree.IdentifierReference m w) no_expr)) (concise ps) (params_made (more_expr (tree.IdentifierReference m w) no_expr)) (concise_made ps) (omega (arith, le))
short_made form.ArrowOfName l ps n le = tt
short_made form.Comma l (AnExpr i x ∷ AnExpr j y ∷ []) n le = omega (arith, le)
short_made form.Comma l ps n le = tt
short_made form.Expression l (AnExpr i e ∷ []) n le = omega (arith, le)
short_made form.Expression l ps n le = tt
short_made form.Labelled l (AnExpr i (tree.IdentifierReference m w) ∷ AStmt s ∷ []) n le = omega (arith, le)
short_made form.Labelled l ps n le = tt
short_made form.Block l (TheStmts ss ∷ []) n le = omega (arith, le)
short_made form.Block l ps n le = tt
short_made (form.Variables k) l ps n le = variables_made n (costs ps) l k (declarators_of (is_const k) ps) (declarators_made (is_const k) ps) (omega (arith, le, variable_long k))
short_made form.FunctionDeclaration l (AWord w m ∷ ps) n le = declaration_made n (costs ps) (length w + 10) _ (function_of ps) (λ f. omega arith) (function_made ps) (omega (arith, le))
short_made form.FunctionDeclaration l ps n le = tt
short_made form.Empty l [] n le = omega (arith, le)
short_made form.Empty l ps n le = tt
short_made form.If l (AnExpr i c ∷ AStmt s ∷ Missing ∷ []) n le = omega (arith, le)
short_made form.If l (AnExpr i c ∷ AStmt s ∷ AStmt r ∷ []) n le = omega (arith, le)
short_made form.If l ps n le = tt
short_made form.For l ps n le = for_made n l ps (omega (arith, le))
short_made form.While l (AnExpr i c ∷ AStmt s ∷ []) n le = omega (arith, le)
short_made form.While l ps n le = tt
short_made form.DoWhile l (AStmt s ∷ AnExpr i c ∷ []) n le = omega (arith, le)
short_made form.DoWhile l ps n le = tt
short_made form.Continue l (Missing ∷ []) n le = omega (arith, le)
short_made form.Continue l (AWord w m ∷ []) n le = omega (arith, le)
short_made form.Continue l ps n le = tt
short_made form.Break l (Missing ∷ []) n le = omega (arith, le)
short_made form.Break l (AWord w m ∷ []) n le = omega (arith, le)
short_made form.Break l ps n le = tt
short_made form.Return l (Missing ∷ []) n le = omega (arith, le)
short_made form.Return l (AnExpr i e ∷ []) n le = omega (arith, le)
short_made form.Return l ps n le = tt
short_made form.Switch l (AnExpr i e ∷ ps) n le = switch_made n l e ps (omega (arith, le))
short_made form.Switch l ps n le = tt
short_made form.Throw l (AnExpr i e ∷ []) n le = omega (arith, le)
short_made form.Throw l ps n le = tt
short_made form.Try l (TheStmts b ∷ TheStmts f ∷ []) n le = omega (arith, le)
short_made form.Try l (TheStmts b ∷ Missing ∷ TheStmts c ∷ Missing ∷ []) n le = omega (arith, le)
short_made form.Try l (TheStmts b ∷ AWord w m ∷ TheStmts c ∷ Missing ∷ []) n le = omega (arith, le)
short_made form.Try l (TheStmts b ∷ Missing ∷ TheStmts c ∷ TheStmts f ∷ []) n le = omega (arith, le)
short_made form.Try l (TheStmts b ∷ AWord w m ∷ TheStmts c ∷ TheStmts f ∷ []) n le = omega (arith, le)
short_made form.Try l ps n le = tt
short_made form.Debugger l [] n le = omega (arith, le)
short_made form.Debugger l ps n le = tt
