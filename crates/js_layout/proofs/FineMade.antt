-- What each production makes of parts that can be printed can be printed.
use Rattle.std.proofs.Common.{◌≡◌, Bool, true, false, not, ◌&&◌, List, [], ◌∷◌, Option, Some, None, if◌then◌else◌, refl}
use Rattle.std.proofs.lemmas.Bool.{and_parts}
use Rattle.js_terms.specs.declared.place.Loc.{Loc}
use Rattle.js_terms.specs.declared.operators.VariableKind.{VariableKind}
use Rattle.js_terms.specs.declared.operators.LogicalOperator.TheVariants as logic
use Rattle.js_tree.specs.Plain.{Expr, no_expr, more_expr, Stmt, MaybeExpr, none_expr, some_expr}
use Rattle.js_tree.specs.Plain as tree
use Rattle.js_reading.specs.Level.{assignment}
use Rattle.js_reading.specs.Slots.{Piece, AnExpr, AStmt, TheStmts, TheExprs, AWord, AText, AKind, Missing, IsIn, IsOf}
use Rattle.js_reading.specs.declared.form.Form.{Form}
use Rattle.js_reading.specs.declared.form.Form.TheVariants as form
use Rattle.js_reading.specs.Makes.{is_target, is_async, is_and_or, loc_of, identifier, function_of, params_of, concise, declarators_of, is_const, variables_of, maybe, for_with, for_of, for_declared, for_parts, properties_of, cases_of, length_of, build}
use Rattle.js_layout.specs.Printable.{ends_open, NoDeclaration}
use Rattle.js_layout.proofs.Fine.{FineExpr, FineMaybe, FineStmt, FineInit, FinePiece, FinePieces, FineMade}
use Rattle.js_layout.proofs.FineParts.{commas_fine, function_made, params_made, concise_made, arrow_fine, expression_fine, declaration_fine, properties_made, object_fine, TemplateTexts, template_fine, begins_word, FineFound, declarators_made, cases_made, switch_fine}

not-not : (b : Bool) → not b ≡ true → b ≡ false
not-not false h = refl
not-not true h = absurd cc

-- ---- what the parts of some productions say beside

-- the statement before an `else` doesn't end with an `if` that has none
abbrev pub IfClosed : List Piece → Type 0
IfClosed (p ∷ AStmt s ∷ AStmt r ∷ ps) = ends_open s ≡ false
IfClosed ps = Unit {0}

-- a word stands behind the kind of a declaration
abbrev pub KindWord : List Piece → Type 0
KindWord (AKind k ∷ ps) = begins_word ps ≡ true
KindWord ps = Unit {0}

abbrev pub Special : Form → List Piece → Type 0
Special form.Template ps = TemplateTexts ps
Special form.If ps = IfClosed ps
Special (form.Variables k) ps = begins_word ps ≡ true
Special form.For ps = KindWord ps
Special f ps = Unit {0}

-- any word may stand behind a dot
abbrev pub is_dot : Form → Bool
is_dot form.Dot = true
is_dot f = false

-- ---- declarations of variables, and heads of `for`

variables_fine : (l : Loc) (k : VariableKind) (o : Option (tree.Declarators × List Piece)) → FineFound true (is_const k) o → FineMade (variables_of l k o)
variables_fine l k None is = tt
variables_fine l k (Some (ds, [])) is = is.2 refl refl
variables_fine l k (Some (ds, r ∷ rest)) is = tt

abbrev FineMaybeIf : Option MaybeExpr → Type 0
FineMaybeIf None = Unit {0}
FineMaybeIf (Some x) = FineMaybe x

maybe_made : (p : Piece) → FinePiece false p → FineMaybeIf (maybe p)
maybe_made Missing h = tt
maybe_made (AnExpr i e) h = h
maybe_made p h = tt

for_with_fine : (l : Loc) (x : tree.ForInit) (s : Stmt) (y z : Option MaybeExpr) → FineInit x → FineStmt s × NoDeclaration s → FineMaybeIf y → FineMaybeIf z → FineMade (for_with l x s y z)
for_with_fine l x s (Some y) (Some z) hx hs hy hz = (hx, hy, hz, hs.0, hs.1)
for_with_fine l x s None z hx hs hy hz = tt
for_with_fine l x s (Some y) None hx hs hy hz = tt

-- the first part of a `for` is one, unless its declarators end before a word
begun_fine : (l : Loc) (x : tree.ForInit) (p q : Piece) (s : Stmt) → (begins_word (p ∷ q ∷ AStmt s ∷ []) ≡ false → FineInit x) → FinePiece false p → FinePiece false q → FineStmt s × NoDeclaration s → FineMade (for_with l x s (maybe p) (maybe q))
begun_fine l x Missing q s hx hp hq hs = for_with_fine l x s (Some none_expr) (maybe q) (hx refl) hs tt (maybe_made q hq)
begun_fine l x (AnExpr i e) q s hx hp hq hs = for_with_fine l x s (Some (some_expr e)) (maybe q) (hx refl) hs hp (maybe_made q hq)
begun_fine l x p q s hx hp hq hs = tt

for_of_made : (l : Loc) (x : tree.ForInit) (ps : List Piece) → (begins_word ps ≡ false → FineInit x) → FinePieces false ps → FineMade (for_of l x ps)
for_of_made l x (p ∷ q ∷ AStmt s ∷ []) hx h = begun_fine l x p q s hx h.0 h.1.0 h.1.1.0
for_of_made l x ps hx h = tt

for_declared_fine : (l : Loc) (k : VariableKind) (o : Option (tree.Declarators × List Piece)) → FineFound true (is_const k) o → FineMade (for_declared l k o)
for_declared_fine l k None is = tt
for_declared_fine l k (Some (ds, rest)) is = for_of_made l (tree.InitDeclaration k ds) rest (is.2 refl) is.1

-- declarators that begin with a word
words_made : (due : Bool) (ps : List Piece) → begins_word ps ≡ true → FinePieces false ps → FineFound true due (declarators_of due ps)
words_made due (AWord w l ∷ ps) e h = declarators_made due (AWord w l ∷ ps) h
words_made due ps e h = absurd cc

for_in_fine : (l : Loc) (x e : Expr) (s : Stmt) → FineExpr x → FineExpr e → FineStmt s × NoDeclaration s → FineMade (if is_target x then Some (AStmt (tree.ForIn (Some l) (tree.TargetExpression x) e s)) else None)
for_in_fine l x e s hx he hs = by_test (is_target x) refl
  where
    by_test : (b : Bool) → is_target x ≡ b → FineMade (if b then Some (AStmt (tree.ForIn (Some l) (tree.TargetExpression x) e s)) else None)
    by_test true t = ((hx, t), he, hs.0, hs.1)
    by_test false t = tt

each_fine : (l : Loc) (x e : Expr) (s : Stmt) → FineExpr x → FineExpr e → FineStmt s × NoDeclaration s → FineMade (if is_target x && not (is_async x) then Some (AStmt (tree.ForOf (Some l) (tree.TargetExpression x) e s)) else None)
each_fine l x e s hx he hs = by_test (is_target x && not (is_async x)) refl
  where
    by_test : (b : Bool) → (is_target x && not (is_async x)) ≡ b → FineMade (if b then Some (AStmt (tree.ForOf (Some l) (tree.TargetExpression x) e s)) else None)
    by_test true t = let both = and_parts (is_target x) (not (is_async x)) t in ((hx, both.0), not-not (is_async x) both.1, he, hs.0, hs.1)
    by_test false t = tt

for_made : (l : Loc) (ps : List Piece) → FinePieces false ps → KindWord ps → FineMade (for_parts l ps)
for_made l (AKind k ∷ AWord w m ∷ IsIn ∷ AnExpr i e ∷ AStmt s ∷ []) h kind = (h.1.0, h.1.1.1.0, h.1.1.1.1.0.0, h.1.1.1.1.0.1)
for_made l (AKind k ∷ AWord w m ∷ IsOf ∷ AnExpr i e ∷ AStmt s ∷ []) h kind = (h.1.0, tt, h.1.1.1.0, h.1.1.1.1.0.0, h.1.1.1.1.0.1)
for_made l (AnExpr j x ∷ IsIn ∷ AnExpr i e ∷ AStmt s ∷ []) h kind = for_in_fine l x e s h.0 h.1.1.0 h.1.1.1.0
for_made l (AnExpr j x ∷ IsOf ∷ AnExpr i e ∷ AStmt s ∷ []) h kind = each_fine l x e s h.0 h.1.1.0 h.1.1.1.0
for_made l (AKind k ∷ ps) h kind = for_declared_fine l k (declarators_of (is_const k) ps) (words_made (is_const k) ps kind h.1)
for_made l (AnExpr j x ∷ ps) h kind = for_of_made l (tree.InitExpression x) ps (λ e. h.0) h.1
for_made l (Missing ∷ ps) h kind = for_of_made l tree.NoInit ps (λ e. tt) h.1
for_made l ps h kind = tt

-- ---- what is made of a target alone

targeted : (x : Expr) (p : Piece) → (is_target x ≡ true → FineMade (Some p)) → FineMade (if is_target x then Some p else None)
targeted x p go = by_test (is_target x) refl
  where
    by_test : (b : Bool) → is_target x ≡ b → FineMade (if b then Some p else None)
    by_test true t = go t
    by_test false t = tt

unless_fine : (b : Bool) (o : Option Piece) → FineMade o → FineMade (if b then None else o)
unless_fine true o h = tt
unless_fine false o h = h

-- ---- all productions

pub fine_made : (f : Form) (l : Loc) (ps : List Piece) → FinePieces (is_dot f) ps → Special f ps → FineMade (build f l ps)
fine_made form.Parentheses l (TheExprs false (more_expr e es) ∷ Missing ∷ []) h special = commas_fine loc_of e es h.0.0 h.0.1
fine_made form.Parentheses l (TheExprs b xs ∷ p ∷ ps) h special = arrow_fine l (params_of xs) (concise (p ∷ ps)) (params_made xs h.0) (concise_made (p ∷ ps) h.1)
fine_made form.Parentheses l ps h special = tt
fine_made form.ArrayLiteral l (TheExprs b xs ∷ []) h special = h.0
fine_made form.ArrayLiteral l ps h special = tt
fine_made form.ObjectLiteral l ps h special = object_fine l (properties_of (length_of ps) ps) (properties_made (length_of ps) ps h)
fine_made form.Template l (AText s ∷ ps) h special = template_fine l s ps h.1 special
fine_made form.Template l ps h special = tt
fine_made form.FunctionExpression l (Missing ∷ ps) h special = expression_fine (λ f. tree.FunctionExpression (Some l) None f) (function_of ps) (λ f is. (tt, is)) (function_made ps h.1)
fine_made form.FunctionExpression l (AWord w m ∷ ps) h special = expression_fine (λ f. tree.FunctionExpression (Some l) (Some (identifier w m)) f) (function_of ps) (λ f is. (h.0, is)) (function_made ps h.1)
fine_made form.FunctionExpression l ps h special = tt
fine_made form.New l (AnExpr i c ∷ TheExprs b xs ∷ []) h special = (h.0, h.1.0)
fine_made form.New l (AnExpr i c ∷ Missing ∷ []) h special = (h.0, tt)
fine_made form.New l ps h special = tt
fine_made form.Call l (AnExpr i f ∷ TheExprs b xs ∷ []) h special = (h.0, h.1.0)
fine_made form.Call l ps h special = tt
fine_made form.Dot l (AnExpr i o ∷ AWord w m ∷ []) h special = (h.0, h.1.0)
fine_made form.Dot l ps h special = tt
fine_made form.Member l (AnExpr i o ∷ AnExpr j k ∷ []) h special = (h.0, h.1.0)
fine_made form.Member l ps h special = tt
fine_made (form.Postfix o) l (AnExpr i e ∷ []) h special = targeted e (AnExpr 17 (tree.PostfixUpdate (Some l) o e)) (λ t. (h.0, t))
fine_made (form.Postfix o) l ps h special = tt
fine_made (form.PrefixUpdate o) l (AnExpr i e ∷ []) h special = targeted e (AnExpr 17 (tree.PrefixUpdate (Some l) o e)) (λ t. (h.0, t))
fine_made (form.PrefixUpdate o) l ps h special = tt
fine_made (form.Unary o) l (AnExpr i e ∷ []) h special = h.0
fine_made (form.Unary o) l ps h special = tt
fine_made (form.Binary o) l (AnExpr i x ∷ AnExpr j y ∷ []) h special = (h.0, h.1.0)
fine_made (form.Binary o) l ps h special = tt
fine_made (form.Logical logic.Coalesce) l (AnExpr i x ∷ AnExpr j y ∷ []) h special = unless_fine (is_and_or x) (Some (AnExpr 4 (tree.Logical (Some l) logic.Coalesce x y))) (h.0, h.1.0)
fine_made (form.Logical logic.And) l (AnExpr i x ∷ AnExpr j y ∷ []) h special = (h.0, h.1.0)
fine_made (form.Logical logic.Or) l (AnExpr i x ∷ AnExpr j y ∷ []) h special = (h.0, h.1.0)
fine_made (form.Logical logic.Coalesce) l ps h special = tt
fine_made (form.Logical o) l ps h special = tt
fine_made form.Conditional l (AnExpr j c ∷ AnExpr i x ∷ AnExpr k y ∷ []) h special = (h.0, h.1.0, h.1.1.0)
fine_made form.Conditional l ps h special = tt
fine_made (form.Assignment o) l (AnExpr i x ∷ AnExpr j v ∷ []) h special = targeted x (AnExpr assignment (tree.Assignment (Some l) o x v)) (λ t. (h.0, t, h.1.0))
fine_made (form.Assignment o) l ps h special = tt
fine_made form.ArrowOfName l (AnExpr i (tree.IdentifierReference m w) ∷ ps) h special = arrow_fine l (params_of (more_expr (tree.IdentifierReference m w) no_expr)) (concise ps) ((h.0, tt, tt)) (concise_made ps h.1)
fine_made form.ArrowOfName l ps h special = tt
fine_made form.Comma l (AnExpr i x ∷ AnExpr j y ∷ []) h special = (h.0, h.1.0)
fine_made form.Comma l ps h special = tt
fine_made form.Expression l (AnExpr i e ∷ []) h special = h.0
fine_made form.Expression l ps h special = tt
fine_made form.Labelled l (AnExpr i (tree.IdentifierReference m w) ∷ AStmt s ∷ []) h special = (h.0, h.1.0.0, h.1.0.1)
fine_made form.Labelled l ps h special = tt
fine_made form.Block l (TheStmts ss ∷ []) h special = h.0
fine_made form.Block l ps h special = tt
fine_made (form.Variables k) l ps h special = variables_fine l k (declarators_of (is_const k) ps) (words_made (is_const k) ps special h)
fine_made form.FunctionDeclaration l (AWord w m ∷ ps) h special = declaration_fine (λ f. tree.FunctionDeclaration (Some l) (identifier w m) f) (function_of ps) (λ f is. (h.0, is)) (function_made ps h.1)
fine_made form.FunctionDeclaration l ps h special = tt
fine_made form.Empty l [] h special = tt
fine_made form.Empty l ps h special = tt
fine_made form.If l (AnExpr i c ∷ AStmt s ∷ Missing ∷ []) h special = (h.0, h.1.0.0, h.1.0.1, tt)
fine_made form.If l (AnExpr i c ∷ AStmt s ∷ AStmt r ∷ []) h special = (h.0, h.1.0.0, h.1.0.1, (h.1.1.0.0, h.1.1.0.1, special))
fine_made form.If l ps h special = tt
fine_made form.For l ps h special = for_made l ps h special
fine_made form.While l (AnExpr i c ∷ AStmt s ∷ []) h special = (h.0, h.1.0.0, h.1.0.1)
fine_made form.While l ps h special = tt
fine_made form.DoWhile l (AStmt s ∷ AnExpr i c ∷ []) h special = (h.0.0, h.0.1, h.1.0)
fine_made form.DoWhile l ps h special = tt
fine_made form.Continue l (Missing ∷ []) h special = tt
fine_made form.Continue l (AWord w m ∷ []) h special = h.0
fine_made form.Continue l ps h special = tt
fine_made form.Break l (Missing ∷ []) h special = tt
fine_made form.Break l (AWord w m ∷ []) h special = h.0
fine_made form.Break l ps h special = tt
fine_made form.Return l (Missing ∷ []) h special = tt
fine_made form.Return l (AnExpr i e ∷ []) h special = h.0
fine_made form.Return l ps h special = tt
fine_made form.Switch l (AnExpr i e ∷ ps) h special = switch_fine l e (cases_of false ps) h.0 (cases_made false ps h.1)
fine_made form.Switch l ps h special = tt
fine_made form.Throw l (AnExpr i e ∷ []) h special = h.0
fine_made form.Throw l ps h special = tt
fine_made form.Try l (TheStmts b ∷ TheStmts f ∷ []) h special = (h.0, h.1.0)
fine_made form.Try l (TheStmts b ∷ Missing ∷ TheStmts c ∷ Missing ∷ []) h special = (h.0, (tt, h.1.1.0))
fine_made form.Try l (TheStmts b ∷ AWord w m ∷ TheStmts c ∷ Missing ∷ []) h special = (h.0, (h.1.0, h.1.1.0))
fine_made form.Try l (TheStmts b ∷ Missing ∷ TheStmts c ∷ TheStmts f ∷ []) h special = (h.0, (tt, h.1.1.0), h.1.1.1.0)
fine_made form.Try l (TheStmts b ∷ AWord w m ∷ TheStmts c ∷ TheStmts f ∷ []) h special = (h.0, (h.1.0, h.1.1.0), h.1.1.1.0)
fine_made form.Try l ps h special = tt
fine_made form.Debugger l [] h special = tt
fine_made form.Debugger l ps h special = tt
