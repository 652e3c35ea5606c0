-- What the productions make of their parts: levels, and where a bare `in` stands.
use Rattle.std.proofs.Common.{◌≡◌, ℕ, ◌≤◌, Bool, true, false, List, [], ◌∷◌, ◌++◌, Option, Some, None, if◌then◌else◌, refl, sym, ◌∙◌, arith, ◌≢◌}
use Rattle.std.specs.Prelude.{nat_le, ◌||◌}
use Rattle.std.proofs.lemmas.Bool.{true≢false, leb-true, leb-false}
use Rattle.js_terms.specs.declared.place.Loc.{Loc}
use Rattle.js_terms.specs.declared.operators.BinaryOperator.{BinaryOperator}
use Rattle.js_terms.specs.declared.operators.BinaryOperator.TheVariants as b
use Rattle.js_terms.specs.declared.operators.LogicalOperator.{LogicalOperator}
use Rattle.js_terms.specs.declared.operators.LogicalOperator.TheVariants as logic
use Rattle.js_tree.specs.Plain.{Expr, Exprs, no_expr, more_expr, Stmt}
use Rattle.js_tree.specs.Plain as tree
use Rattle.js_reading.specs.Level.{assignment, binary_level, logical_level}
use Rattle.js_reading.specs.Slots.{Wanted, Level, WithoutIn, Callee, Slot, Sign, Text, Expr_, Stmt_, Stmts_, Items_, Place_, By, Piece, AnExpr, AStmt, TheStmts, TheExprs, AWord, AKey, AText, APlace, AKind, Missing, Form}
use Rattle.js_reading.specs.Slots as slot
use Rattle.js_reading.specs.Productions.{member, call, bare, member_level, slots, first_level, form_level}
use Rattle.js_reading.specs.Makes.{build, is_target, is_and_or, bare_in, arrow_of, params_of, concise, expression_of, object_of, properties_of, length_of, template_of, template_parts, function_of}
use Rattle.js_reading.proofs.sentences.Shapes.{open_end, last_bare}

or_first : (x y : Bool) → (x || y) ≡ false → x ≡ false
or_first false y h = refl
or_first true y h = h

or_second : (x y : Bool) → (x || y) ≡ false → y ≡ false
or_second false y h = h
or_second true y h = absurd (true≢false h)

-- ---- what begins with an expression

abbrev pub is_join : Form → Bool
is_join slot.Call = true
is_join slot.Dot = true
is_join slot.Member = true
is_join (slot.Postfix o) = true
is_join (slot.Binary o) = true
is_join (slot.Logical o) = true
is_join slot.Conditional = true
is_join (slot.Assignment o) = true
is_join slot.ArrowOfName = true
is_join slot.Comma = true
is_join f = false

abbrev pub FirstBare : Form → ℕ → Expr → Expr → Type 0
FirstBare g i a e = bare_in e ≡ false → (17 ≤ i → bare_in a ≡ false) → first_level (slots g) ≤ i → bare_in a ≡ false

abbrev pub Joins : Form → ℕ → Expr → Option Piece → Type 0
Joins g i a (Some (AnExpr j e)) = (j ≤ form_level g) × (first_level (slots g) ≤ i → j ≤ i) × (j ≢ bare) × FirstBare g i a e
Joins g i a o = Unit {0}

pub member_is : (i : ℕ) → (member_level i ≤ member) × (call ≤ i → member_level i ≤ i) × (member_level i ≢ bare)
member_is i = by_test (nat_le member i) refl
  where
    by_test : (b : Bool) → nat_le member i ≡ b → ((if b then member else call) ≤ member) × (call ≤ i → (if b then member else call) ≤ i) × ((if b then member else call) ≢ bare)
    by_test true e = let l = leb-true member i e in (omega arith, λ h. l, λ h. omega arith)
    by_test false e = let l = leb-false member i e in (omega arith, λ h. h, λ h. omega arith)

binary_made : (o : BinaryOperator) (i : ℕ) (a y : Expr) (l : Option Loc) → Joins (slot.Binary o) i a (Some (AnExpr (binary_level o) (tree.Binary l o a y)))
binary_made b.In i a y l = (omega arith, λ h. h, λ h. omega arith, λ q high low. absurd (true≢false q))
binary_made b.Exponentiate i a y l = (omega arith, λ h. omega arith, λ h. omega arith, λ q high low. or_first (bare_in a) (bare_in y) q)
binary_made o i a y l = (omega arith, λ h. h, λ h. omega arith, λ q high low. or_first (bare_in a) (bare_in y) q)

logical_made : (o : LogicalOperator) (i : ℕ) (a y : Expr) (l : Option Loc) → Joins (slot.Logical o) i a (Some (AnExpr (logical_level o) (tree.Logical l o a y)))
logical_made logic.And i a y l = (omega arith, λ h. h, λ h. omega arith, λ q high low. or_first (bare_in a) (bare_in y) q)
logical_made logic.Or i a y l = (omega arith, λ h. h, λ h. omega arith, λ q high low. or_first (bare_in a) (bare_in y) q)
logical_made logic.Coalesce i a y l = (omega arith, λ h. h, λ h. omega arith, λ q high low. or_first (bare_in a) (bare_in y) q)

pub joins_made : (g : Form) (l : Loc) (i : ℕ) (a : Expr) (ps : List Piece) → is_join g ≡ true → Joins g i a (build g l (AnExpr i a ∷ ps))
joins_made slot.Call l i a (TheExprs trailing xs ∷ []) is = (omega arith, λ h. h, λ h. omega arith, λ q high low. high (omega arith))
joins_made slot.Dot l i a (AWord w m ∷ []) is = let r = member_is i in (r.0, r.1, r.2, λ q high low. high (omega arith))
joins_made slot.Member l i a (AnExpr j k ∷ []) is = let r = member_is i in (r.0, r.1, r.2, λ q high low. high (omega arith))
joins_made (slot.Postfix o) l i a [] is = elim (is_target a) as (λ t. Joins (slot.Postfix o) i a (if t then Some (AnExpr 17 (tree.PostfixUpdate (Some l) o a)) else None)) [ true ↦ (omega arith, λ h. omega arith, λ h. omega arith, λ q high low. high (omega arith)) | false ↦ tt ]
joins_made (slot.Binary o) l i a (AnExpr j y ∷ []) is = binary_made o i a y (Some l)
joins_made (slot.Logical logic.Coalesce) l i a (AnExpr j y ∷ []) is = elim (is_and_or a) as (λ t. Joins (slot.Logical logic.Coalesce) i a (if t then None else Some (AnExpr 4 (tree.Logical (Some l) logic.Coalesce a y)))) [ true ↦ tt | false ↦ logical_made logic.Coalesce i a y (Some l) ]
joins_made (slot.Logical logic.And) l i a (AnExpr j y ∷ []) is = logical_made logic.And i a y (Some l)
joins_made (slot.Logical logic.Or) l i a (AnExpr j y ∷ []) is = logical_made logic.Or i a y (Some l)
joins_made slot.Conditional l i a (AnExpr j x ∷ AnExpr k y ∷ []) is = (omega arith, λ h. omega arith, λ h. omega arith, λ q high low. or_first (bare_in a) (bare_in y) q)
joins_made (slot.Assignment o) l i a (AnExpr j v ∷ []) is = elim (is_target a) as (λ t. Joins (slot.Assignment o) i a (if t then Some (AnExpr assignment (tree.Assignment (Some l) o a v)) else None)) [ true ↦ (omega arith, λ h. omega arith, λ h. omega arith, λ q high low. high (omega arith)) | false ↦ tt ]
joins_made slot.ArrowOfName l i (tree.IdentifierReference m w) ps is = by_body (concise ps)
  where
    by_body : (o : Option tree.ConciseBody) → Joins slot.ArrowOfName i (tree.IdentifierReference m w) (arrow_of l (params_of (more_expr (tree.IdentifierReference m w) no_expr)) o)
    by_body None = tt
    by_body (Some x) = (omega arith, λ h. omega arith, λ h. omega arith, λ q high low. refl)
joins_made slot.Comma l i a (AnExpr j y ∷ []) is = (omega arith, λ h. h, λ h. omega arith, λ q high low. or_first (bare_in a) (bare_in y) q)
joins_made slot.Call l i a ps is = tt
joins_made slot.Dot l i a ps is = tt
joins_made slot.Member l i a ps is = tt
joins_made (slot.Postfix o) l i a ps is = tt
joins_made (slot.Binary o) l i a ps is = tt
joins_made (slot.Logical logic.Coalesce) l i a ps is = tt
joins_made (slot.Logical o) l i a ps is = tt
joins_made slot.Conditional l i a ps is = tt
joins_made (slot.Assignment o) l i a ps is = tt
joins_made slot.ArrowOfName l i a ps is = tt
joins_made slot.Comma l i a ps is = tt
joins_made g l i a ps is = absurd (true≢false (sym is))

-- ---- what ends with an expression

abbrev pub Lasts : Form → List Piece → Option Piece → Type 0
Lasts f ps (Some (AnExpr i e)) = open_end (slots f) ≡ true → bare_in e ≡ false → last_bare ps ≡ false
Lasts f ps o = Unit {0}

closed_lasts : (f : Form) (ps : List Piece) (o : Option Piece) → open_end (slots f) ≡ false → Lasts f ps o
closed_lasts f ps (Some (AnExpr i e)) h = λ q r. absurd (true≢false (sym q ∙ h))
closed_lasts f ps o h = tt

binary_lasts : (o : BinaryOperator) (i j : ℕ) (x y : Expr) (l : Option Loc) → Lasts (slot.Binary o) (AnExpr i x ∷ AnExpr j y ∷ []) (Some (AnExpr (binary_level o) (tree.Binary l o x y)))
binary_lasts b.In i j x y l = λ q r. absurd (true≢false r)
binary_lasts o i j x y l = λ q r. or_second (bare_in x) (bare_in y) r

target_bare : (e : Expr) → is_target e ≡ true → bare_in e ≡ false
target_bare (tree.IdentifierReference l w) h = refl
target_bare (tree.NamedMember l o w) h = refl
target_bare (tree.ComputedMember l o k) h = refl
target_bare e h = absurd (true≢false (sym h))

body_lasts : (f : Form) (l : Loc) (xs : Option tree.Params) (qs ps : List Piece) → ((i : ℕ) (e : Expr) → last_bare (qs ++ AnExpr i e ∷ []) ≡ bare_in e) → ((p q r : Piece) → last_bare (qs ++ p ∷ q ∷ r ∷ []) ≡ last_bare (r ∷ [])) →
    Lasts f (qs ++ ps) (arrow_of l xs (concise ps))
body_lasts f l None qs ps one more = tt
body_lasts f l (Some xs) qs (AnExpr i e ∷ []) one more = λ q r. one i e ∙ r
body_lasts f l (Some xs) qs (APlace m ∷ TheStmts ss ∷ APlace n ∷ []) one more = λ q r. more (APlace m) (TheStmts ss) (APlace n)
body_lasts f l (Some xs) qs ps one more = tt

pub lasts_made : (f : Form) (l : Loc) (ps : List Piece) → Lasts f ps (build f l ps)
lasts_made slot.Parentheses l (TheExprs false (more_expr e es) ∷ Missing ∷ []) = λ q r. refl
lasts_made slot.Parentheses l (TheExprs b xs ∷ p ∷ ps) = body_lasts slot.Parentheses l (params_of xs) (TheExprs b xs ∷ []) (p ∷ ps) (λ i e. refl) (λ p q r. refl)
lasts_made slot.Parentheses l ps = tt
lasts_made (slot.PrefixUpdate o) l (AnExpr i e ∷ []) = by_test (is_target e) refl
  where
    by_test : (b : Bool) → is_target e ≡ b → Lasts (slot.PrefixUpdate o) (AnExpr i e ∷ []) (if b then Some (AnExpr 17 (tree.PrefixUpdate (Some l) o e)) else None)
    by_test true h = λ q r. r
    by_test false h = tt
lasts_made (slot.PrefixUpdate o) l ps = tt
lasts_made (slot.Unary o) l (AnExpr i e ∷ []) = λ q r. r
lasts_made (slot.Unary o) l ps = tt
lasts_made (slot.Binary o) l (AnExpr i x ∷ AnExpr j y ∷ []) = binary_lasts o i j x y (Some l)
lasts_made (slot.Binary o) l ps = tt
lasts_made (slot.Logical logic.Coalesce) l (AnExpr i x ∷ AnExpr j y ∷ []) = elim (is_and_or x) as (λ t. Lasts (slot.Logical logic.Coalesce) (AnExpr i x ∷ AnExpr j y ∷ []) (if t then None else Some (AnExpr 4 (tree.Logical (Some l) logic.Coalesce x y)))) [ true ↦ tt | false ↦ (λ q r. or_second (bare_in x) (bare_in y) r) ]
lasts_made (slot.Logical logic.And) l (AnExpr i x ∷ AnExpr j y ∷ []) = λ q r. or_second (bare_in x) (bare_in y) r
lasts_made (slot.Logical logic.Or) l (AnExpr i x ∷ AnExpr j y ∷ []) = λ q r. or_second (bare_in x) (bare_in y) r
lasts_made (slot.Logical logic.Coalesce) l ps = tt
lasts_made (slot.Logical o) l ps = tt
lasts_made slot.Conditional l (AnExpr h c ∷ AnExpr i x ∷ AnExpr j y ∷ []) = λ q r. or_second (bare_in c) (bare_in y) r
lasts_made slot.Conditional l ps = tt
lasts_made (slot.Assignment o) l (AnExpr i x ∷ AnExpr j v ∷ []) = elim (is_target x) as (λ t. Lasts (slot.Assignment o) (AnExpr i x ∷ AnExpr j v ∷ []) (if t then Some (AnExpr assignment (tree.Assignment (Some l) o x v)) else None)) [ true ↦ (λ q r. r) | false ↦ tt ]
lasts_made (slot.Assignment o) l ps = tt
lasts_made slot.ArrowOfName l (AnExpr i (tree.IdentifierReference m w) ∷ ps) =
    body_lasts slot.ArrowOfName l (params_of (more_expr (tree.IdentifierReference m w) no_expr)) (AnExpr i (tree.IdentifierReference m w) ∷ []) ps (λ i e. refl) (λ p q r. refl)
lasts_made slot.ArrowOfName l ps = tt
lasts_made slot.Comma l (AnExpr i x ∷ AnExpr j y ∷ []) = λ q r. or_second (bare_in x) (bare_in y) r
lasts_made slot.Comma l ps = tt
lasts_made f l ps = closed_lasts f ps (build f l ps) refl

-- ---- what binds as tightly as an update has no bare `in`

abbrev pub High : Option Piece → Type 0
High (Some (AnExpr i e)) = 17 ≤ i → bare_in e ≡ false
High o = Unit {0}

high_arrow : (l : Loc) (xs : Option tree.Params) (o : Option tree.ConciseBody) → High (arrow_of l xs o)
high_arrow l (Some xs) (Some x) = λ h. absurd (omega arith)
high_arrow l xs o = tt

high_function : (make : tree.Function → Expr) (o : Option tree.Function) → ((f : tree.Function) → bare_in (make f) ≡ false) → High (expression_of make o)
high_function make None h = tt
high_function make (Some f) h = λ q. h f

low_binary : (o : BinaryOperator) → 17 ≤ binary_level o → ⊥
low_binary b.Exponentiate h = omega arith
low_binary o h = omega arith

abbrev pub is_first : Form → Bool
is_first slot.Parentheses = true
is_first slot.ArrayLiteral = true
is_first slot.ObjectLiteral = true
is_first slot.Template = true
is_first slot.FunctionExpression = true
is_first slot.New = true
is_first (slot.PrefixUpdate o) = true
is_first (slot.Unary o) = true
is_first f = false

pub high_made : (f : Form) (l : Loc) (ps : List Piece) → (is_first f || is_join f) ≡ true → High (build f l ps)
high_made slot.Parentheses l (TheExprs false (more_expr e es) ∷ Missing ∷ []) is = λ h. refl
high_made slot.Parentheses l (TheExprs b xs ∷ p ∷ ps) is = high_arrow l (params_of xs) (concise (p ∷ ps))
high_made slot.Parentheses l ps is = tt
high_made slot.ArrayLiteral l (TheExprs b xs ∷ []) is = λ h. refl
high_made slot.ArrayLiteral l ps is = tt
high_made slot.ObjectLiteral l ps is = elim (properties_of (length_of ps) ps) as (λ o. High (object_of l o)) [ None ↦ tt | Some xs ↦ (λ h. refl) ]
high_made slot.Template l (AText s ∷ ps) is = elim (template_parts ps) as (λ o. High (template_of l s o)) [ None ↦ tt | Some xs ↦ (λ h. refl) ]
high_made slot.Template l ps is = tt
high_made slot.FunctionExpression l (Missing ∷ ps) is = high_function _ (function_of ps) (λ f. refl)
high_made slot.FunctionExpression l (AWord w m ∷ ps) is = high_function _ (function_of ps) (λ f. refl)
high_made slot.FunctionExpression l ps is = tt
high_made slot.New l (AnExpr i c ∷ TheExprs b xs ∷ []) is = λ h. refl
high_made slot.New l (AnExpr i c ∷ Missing ∷ []) is = λ h. refl
high_made slot.New l ps is = tt
high_made slot.Call l (AnExpr i f ∷ TheExprs b xs ∷ []) is = λ h. refl
high_made slot.Call l ps is = tt
high_made slot.Dot l (AnExpr i o ∷ AWord w m ∷ []) is = λ h. refl
high_made slot.Dot l ps is = tt
high_made slot.Member l (AnExpr i o ∷ AnExpr j k ∷ []) is = λ h. refl
high_made slot.Member l ps is = tt
high_made (slot.Postfix o) l (AnExpr i e ∷ []) is = elim (is_target e) as (λ t. High (if t then Some (AnExpr 17 (tree.PostfixUpdate (Some l) o e)) else None)) [ true ↦ (λ h. refl) | false ↦ tt ]
high_made (slot.Postfix o) l ps is = tt
high_made (slot.PrefixUpdate o) l (AnExpr i e ∷ []) is = by_test (is_target e) refl
  where
    by_test : (b : Bool) → is_target e ≡ b → High (if b then Some (AnExpr 17 (tree.PrefixUpdate (Some l) o e)) else None)
    by_test true h = λ q. target_bare e h
    by_test false h = tt
high_made (slot.PrefixUpdate o) l ps is = tt
high_made (slot.Unary o) l (AnExpr i e ∷ []) is = λ h. absurd (omega arith)
high_made (slot.Unary o) l ps is = tt
high_made (slot.Binary o) l (AnExpr i x ∷ AnExpr j y ∷ []) is = λ h. absurd (low_binary o h)
high_made (slot.Binary o) l ps is = tt
high_made (slot.Logical logic.Coalesce) l (AnExpr i x ∷ AnExpr j y ∷ []) is = elim (is_and_or x) as (λ t. High (if t then None else Some (AnExpr 4 (tree.Logical (Some l) logic.Coalesce x y)))) [ true ↦ tt | false ↦ (λ h. absurd (omega arith)) ]
high_made (slot.Logical logic.And) l (AnExpr i x ∷ AnExpr j y ∷ []) is = λ h. absurd (omega arith)
high_made (slot.Logical logic.Or) l (AnExpr i x ∷ AnExpr j y ∷ []) is = λ h. absurd (omega arith)
high_made (slot.Logical logic.Coalesce) l ps is = tt
high_made (slot.Logical o) l ps is = tt
high_made slot.Conditional l (AnExpr h c ∷ AnExpr i x ∷ AnExpr j y ∷ []) is = λ h. absurd (omega arith)
high_made slot.Conditional l ps is = tt
high_made (slot.Assignment o) l (AnExpr i x ∷ AnExpr j v ∷ []) is = elim (is_target x) as (λ t. High (if t then Some (AnExpr assignment (tree.Assignment (Some l) o x v)) else None)) [ true ↦ (λ h. absurd (omega arith)) | false ↦ tt ]
high_made (slot.Assignment o) l ps is = tt
high_made slot.ArrowOfName l (AnExpr i (tree.IdentifierReference m w) ∷ ps) is = high_arrow l (params_of (more_expr (tree.IdentifierReference m w) no_expr)) (concise ps)
high_made slot.ArrowOfName l ps is = tt
high_made slot.Comma l (AnExpr i x ∷ AnExpr j y ∷ []) is = λ h. absurd (omega arith)
high_made slot.Comma l ps is = tt
high_made f l ps is = absurd (true≢false (sym is))
