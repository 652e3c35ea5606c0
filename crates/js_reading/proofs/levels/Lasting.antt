-- How tightly the last part of a production binds, once it is whole: a token of its own, or a part as loose as an arrow's body.
use Rattle.std.proofs.Common.{◌≡◌, ℕ, ◌≤◌, Bool, true, false, not, ◌&&◌, List, [], ◌∷◌, ◌++◌, Option, Some, None, if◌then◌else◌, refl, sym, arith}
use Rattle.std.proofs.lemmas.Bool.{true≢false}
use Rattle.js_terms.specs.declared.place.Loc.{Loc}
use Rattle.js_terms.specs.declared.operators.BinaryOperator.{BinaryOperator}
use Rattle.js_terms.specs.declared.operators.BinaryOperator.TheVariants as b
use Rattle.js_terms.specs.declared.operators.LogicalOperator.TheVariants as logic
use Rattle.js_tree.specs.Plain.{Expr, Exprs, no_expr, more_expr}
use Rattle.js_tree.specs.Plain as tree
use Rattle.js_reading.specs.Level.{assignment, binary_level}
use Rattle.js_reading.specs.Slots.{Piece, AnExpr, AStmt, TheStmts, TheExprs, AWord, AText, APlace, Missing, Form}
use Rattle.js_reading.specs.Slots as slot
use Rattle.js_reading.specs.Makes.{build, is_target, is_and_or, last_level, arrow_of, params_of, concise, expression_of, object_of, properties_of, length_of, template_of, template_parts, function_of}
use Rattle.js_reading.proofs.sentences.Rows.{tight, makes}

-- ---- a production that ends with a token of its own

-- as tight as an update, or as a call
abbrev pub grasp : Form → ℕ
grasp (slot.Postfix o) = 17
grasp f = 20

abbrev pub TightAt : ℕ → Option Piece → Type 0
TightAt n (Some (AnExpr i e)) = n ≤ last_level e
TightAt n (Some (AStmt s)) = ⊥
TightAt n o = Unit {0}

abbrev pub Tight : Option Piece → Type 0
Tight (Some (AnExpr i e)) = 14 ≤ last_level e
Tight (Some (AStmt s)) = ⊥
Tight o = Unit {0}

tight_function : (make : tree.Function → Expr) (o : Option tree.Function) → ((f : tree.Function) → 20 ≤ last_level (make f)) → TightAt 20 (expression_of make o)
tight_function make None h = tt
tight_function make (Some f) h = h f

pub tight_at : (f : Form) (l : Loc) (ps : List Piece) → tight f ≡ true → TightAt (grasp f) (build f l ps)
tight_at slot.ArrayLiteral l (TheExprs b xs ∷ []) is = omega arith
tight_at slot.ArrayLiteral l ps is = tt
tight_at slot.ObjectLiteral l ps is = elim (properties_of (length_of ps) ps) as (λ o. TightAt 20 (object_of l o)) [ None ↦ tt | Some xs ↦ (omega arith) ]
tight_at slot.Template l (AText s ∷ ps) is = elim (template_parts ps) as (λ o. TightAt 20 (template_of l s o)) [ None ↦ tt | Some xs ↦ (omega arith) ]
tight_at slot.Template l ps is = tt
tight_at slot.FunctionExpression l (Missing ∷ ps) is = tight_function _ (function_of ps) (λ f. omega arith)
tight_at slot.FunctionExpression l (AWord w m ∷ ps) is = tight_function _ (function_of ps) (λ f. omega arith)
tight_at slot.FunctionExpression l ps is = tt
tight_at slot.New l (AnExpr i c ∷ TheExprs b xs ∷ []) is = omega arith
tight_at slot.New l (AnExpr i c ∷ Missing ∷ []) is = omega arith
tight_at slot.New l ps is = tt
tight_at slot.Call l (AnExpr i f ∷ TheExprs b xs ∷ []) is = omega arith
tight_at slot.Call l ps is = tt
tight_at slot.Dot l (AnExpr i o ∷ AWord w m ∷ []) is = omega arith
tight_at slot.Dot l ps is = tt
tight_at slot.Member l (AnExpr i o ∷ AnExpr j k ∷ []) is = omega arith
tight_at slot.Member l ps is = tt
tight_at (slot.Postfix o) l (AnExpr i e ∷ []) is = elim (is_target e) as (λ t. TightAt 17 (if t then Some (AnExpr 17 (tree.PostfixUpdate (Some l) o e)) else None)) [ true ↦ (omega arith) | false ↦ tt ]
tight_at (slot.Postfix o) l ps is = tt
tight_at f l ps is = absurd (true≢false (sym is))

weaker : (n : ℕ) (o : Option Piece) → 14 ≤ n → TightAt n o → Tight o
weaker n None le h = tt
weaker n (Some (AnExpr i e)) le h = omega arith
weaker n (Some (AStmt s)) le h = h
weaker n (Some p) le h = tt

enough : (f : Form) → 14 ≤ grasp f
enough (slot.Postfix o) = omega arith
enough f = omega arith

pub tight_made : (f : Form) (l : Loc) (ps : List Piece) → tight f ≡ true → Tight (build f l ps)
tight_made f l ps is = weaker (grasp f) (build f l ps) (enough f) (tight_at f l ps is)

-- ---- parentheses that no arrow's body follows

abbrev pub last_missing : List Piece → Bool
last_missing [] = false
last_missing (Missing ∷ []) = true
last_missing (p ∷ []) = false
last_missing (p ∷ q ∷ ps) = last_missing (q ∷ ps)

pub ends_missing : (ps : List Piece) → last_missing (ps ++ Missing ∷ []) ≡ true
ends_missing [] = refl
ends_missing (q ∷ []) = refl
ends_missing (q ∷ r ∷ ps) = ends_missing (r ∷ ps)

no_arrow : (l : Loc) (xs : Option tree.Params) → TightAt 20 (arrow_of l xs None)
no_arrow l None = tt
no_arrow l (Some xs) = tt

no_body : (l : Loc) (xs : Option tree.Params) (ps : List Piece) → last_missing ps ≡ true → TightAt 20 (arrow_of l xs (concise ps))
no_body l xs (AnExpr i e ∷ []) h = absurd (true≢false (sym h))
no_body l xs (APlace m ∷ TheStmts ss ∷ APlace n ∷ []) h = absurd (true≢false (sym h))
no_body l xs ps h = no_arrow l xs

pub missing_at : (l : Loc) (ps : List Piece) → last_missing ps ≡ true → TightAt 20 (build slot.Parentheses l ps)
missing_at l (TheExprs false (more_expr e es) ∷ Missing ∷ []) h = omega arith
missing_at l (TheExprs b xs ∷ p ∷ ps) h = no_body l (params_of xs) (p ∷ ps) h
missing_at l ps h = tt

pub missing_made : (l : Loc) (ps : List Piece) → last_missing ps ≡ true → Tight (build slot.Parentheses l ps)
missing_made l ps h = weaker 20 (build slot.Parentheses l ps) (omega arith) (missing_at l ps h)

-- ---- a production that ends with a part as loose as an arrow

abbrev pub Low : Piece → Type 0
Low (AnExpr i e) = (i ≤ 17) × (last_level e ≤ 2)
Low (APlace l) = Unit {0}
Low p = ⊥

abbrev pub LastLow : List Piece → Type 0
LastLow [] = ⊥
LastLow (p ∷ []) = Low p
LastLow (p ∷ q ∷ ps) = LastLow (q ∷ ps)

pub ends_low : (ps : List Piece) (p : Piece) → Low p → LastLow (ps ++ p ∷ [])
ends_low [] p h = h
ends_low (q ∷ []) p h = h
ends_low (q ∷ r ∷ ps) p h = ends_low (r ∷ ps) p h

abbrev pub LowMade : Option Piece → Type 0
LowMade (Some (AnExpr i e)) = (i ≤ 17) × (last_level e ≤ 2)
LowMade (Some (AStmt s)) = ⊥
LowMade o = Unit {0}

low_body : (l : Loc) (xs : Option tree.Params) (ps : List Piece) → LastLow ps → LowMade (arrow_of l xs (concise ps))
low_body l None ps h = tt
low_body l (Some xs) (AnExpr i e ∷ []) h = (omega arith, h.1)
low_body l (Some xs) (APlace m ∷ TheStmts ss ∷ APlace n ∷ []) h = (omega arith, omega arith)
low_body l (Some xs) ps h = tt

low_binary : (o : BinaryOperator) → binary_level o ≤ 17
low_binary b.Exponentiate = omega arith
low_binary o = omega arith

target_tight : (e : Expr) → is_target e ≡ true → last_level e ≤ 2 → ⊥
target_tight (tree.IdentifierReference l w) h k = omega arith
target_tight (tree.NamedMember l o w) h k = omega arith
target_tight (tree.ComputedMember l o x) h k = omega arith
target_tight e h k = true≢false (sym h)

abbrev pub loose : Form → Bool
loose f = makes f && not (tight f)

pub low_made : (f : Form) (l : Loc) (ps : List Piece) → loose f ≡ true → LastLow ps → LowMade (build f l ps)
low_made slot.Parentheses l (TheExprs false (more_expr e es) ∷ Missing ∷ []) is h = absurd h
low_made slot.Parentheses l (TheExprs b xs ∷ p ∷ ps) is h = low_body l (params_of xs) (p ∷ ps) h
low_made slot.Parentheses l ps is h = tt
low_made (slot.PrefixUpdate o) l (AnExpr i e ∷ []) is h = by_test (is_target e) refl
  where
    by_test : (b : Bool) → is_target e ≡ b → LowMade (if b then Some (AnExpr 17 (tree.PrefixUpdate (Some l) o e)) else None)
    by_test true q = absurd (target_tight e q h.1)
    by_test false q = tt
low_made (slot.PrefixUpdate o) l ps is h = tt
low_made (slot.Unary o) l (AnExpr i e ∷ []) is h = (omega arith, h.1)
low_made (slot.Unary o) l ps is h = tt
low_made (slot.Binary o) l (AnExpr i x ∷ AnExpr j y ∷ []) is h = (low_binary o, h.1)
low_made (slot.Binary o) l ps is h = tt
low_made (slot.Logical logic.Coalesce) l (AnExpr i x ∷ AnExpr j y ∷ []) is h = elim (is_and_or x) as (λ t. LowMade (if t then None else Some (AnExpr 4 (tree.Logical (Some l) logic.Coalesce x y)))) [ true ↦ tt | false ↦ (omega arith, h.1) ]
low_made (slot.Logical logic.And) l (AnExpr i x ∷ AnExpr j y ∷ []) is h = (omega arith, h.1)
low_made (slot.Logical logic.Or) l (AnExpr i x ∷ AnExpr j y ∷ []) is h = (omega arith, h.1)
low_made (slot.Logical logic.Coalesce) l ps is h = tt
low_made (slot.Logical o) l ps is h = tt
low_made slot.Conditional l (AnExpr k c ∷ AnExpr i x ∷ AnExpr j y ∷ []) is h = (omega arith, h.1)
low_made slot.Conditional l ps is h = tt
low_made (slot.Assignment o) l (AnExpr i x ∷ AnExpr j v ∷ []) is h = elim (is_target x) as (λ t. LowMade (if t then Some (AnExpr assignment (tree.Assignment (Some l) o x v)) else None)) [ true ↦ (omega arith, h.1) | false ↦ tt ]
low_made (slot.Assignment o) l ps is h = tt
low_made slot.ArrowOfName l (AnExpr i (tree.IdentifierReference m w) ∷ []) is h = absurd (omega arith)
low_made slot.ArrowOfName l (AnExpr i (tree.IdentifierReference m w) ∷ p ∷ ps) is h = low_body l (params_of (more_expr (tree.IdentifierReference m w) no_expr)) (p ∷ ps) h
low_made slot.ArrowOfName l ps is h = tt
low_made slot.Comma l (AnExpr i x ∷ AnExpr j y ∷ []) is h = (omega arith, h.1)
low_made slot.Comma l ps is h = tt
low_made f l ps is h = absurd (true≢false (sym is))
