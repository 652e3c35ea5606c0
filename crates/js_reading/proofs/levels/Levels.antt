-- Each expression that is spelt has a level.
use Rattle.std.proofs.Common.{◌≡◌, ℕ, ◌≤◌, Bool, true, false, List, [], ◌∷◌, Option, Some, None, if◌then◌else◌, refl, sym, subst, arith}
use Rattle.std.specs.Prelude.{nat_le, ◌||◌}
use Rattle.std.proofs.lemmas.Bool.{true≢false}
use Rattle.js_terms.specs.declared.place.Loc.{Loc}
use Rattle.js_terms.specs.declared.operators.BinaryOperator.{BinaryOperator}
use Rattle.js_terms.specs.declared.operators.BinaryOperator.TheVariants as b
use Rattle.js_terms.specs.declared.operators.LogicalOperator.TheVariants as logic
use Rattle.js_tree.specs.Plain.{Expr, Exprs, no_expr, more_expr}
use Rattle.js_tree.specs.Plain as tree
use Rattle.js_text.specs.Token.{Token}
use Rattle.js_reading.specs.Level.{any, assignment, binary_level}
use Rattle.js_reading.specs.Spans.{through}
use Rattle.js_reading.specs.Slots.{Piece, AnExpr, AStmt, TheStmts, TheExprs, AWord, AText, Missing, Form}
use Rattle.js_reading.specs.Slots as slot
use Rattle.js_reading.specs.Productions.{member, call, member_level}
use Rattle.js_reading.specs.Makes.{build, is_target, is_and_or, arrow_of, params_of, concise, expression_of, object_of, properties_of, length_of, template_of, template_parts, function_of}
use Rattle.js_reading.specs.Sentences
use Rattle.js_reading.specs.Sentences.{Spells}
use Rattle.js_reading.proofs.levels.Makings.{is_first, is_join}
use Rattle.js_reading.proofs.levels.Tightness.{is_first_form, is_join_form}

abbrev pub Leveled : Option Piece → Type 0
Leveled (Some (AnExpr i e)) = any ≤ i
Leveled o = Unit {0}

leveled_arrow : (l : Loc) (xs : Option tree.Params) (o : Option tree.ConciseBody) → Leveled (arrow_of l xs o)
leveled_arrow l (Some xs) (Some x) = omega arith
leveled_arrow l xs o = tt

leveled_function : (make : tree.Function → Expr) (o : Option tree.Function) → Leveled (expression_of make o)
leveled_function make None = tt
leveled_function make (Some f) = omega arith

leveled_binary : (o : BinaryOperator) → any ≤ binary_level o
leveled_binary b.Exponentiate = omega arith
leveled_binary o = omega arith

leveled_member : (i : ℕ) → any ≤ member_level i
leveled_member i = elim (nat_le member i) as (λ t. any ≤ (if t then member else call)) [ true ↦ omega arith | false ↦ omega arith ]

pub levels_made : (f : Form) (l : Loc) (ps : List Piece) → (is_first f || is_join f) ≡ true → Leveled (build f l ps)
levels_made slot.Parentheses l (TheExprs false (more_expr e es) ∷ Missing ∷ []) is = omega arith
levels_made slot.Parentheses l (TheExprs b xs ∷ p ∷ ps) is = leveled_arrow l (params_of xs) (concise (p ∷ ps))
levels_made slot.Parentheses l ps is = tt
levels_made slot.ArrayLiteral l (TheExprs b xs ∷ []) is = omega arith
levels_made slot.ArrayLiteral l ps is = tt
levels_made slot.ObjectLiteral l ps is = elim (properties_of (length_of ps) ps) as (λ o. Leveled (object_of l o)) [ None ↦ tt | Some xs ↦ (omega arith) ]
levels_made slot.Template l (AText s ∷ ps) is = elim (template_parts ps) as (λ o. Leveled (template_of l s o)) [ None ↦ tt | Some xs ↦ (omega arith) ]
levels_made slot.Template l ps is = tt
levels_made slot.FunctionExpression l (Missing ∷ ps) is = leveled_function _ (function_of ps)
levels_made slot.FunctionExpression l (AWord w m ∷ ps) is = leveled_function _ (function_of ps)
levels_made slot.FunctionExpression l ps is = tt
levels_made slot.New l (AnExpr i c ∷ TheExprs b xs ∷ []) is = omega arith
levels_made slot.New l (AnExpr i c ∷ Missing ∷ []) is = omega arith
levels_made slot.New l ps is = tt
levels_made slot.Call l (AnExpr i f ∷ TheExprs b xs ∷ []) is = omega arith
levels_made slot.Call l ps is = tt
levels_made slot.Dot l (AnExpr i o ∷ AWord w m ∷ []) is = leveled_member i
levels_made slot.Dot l ps is = tt
levels_made slot.Member l (AnExpr i o ∷ AnExpr j k ∷ []) is = leveled_member i
levels_made slot.Member l ps is = tt
levels_made (slot.Postfix o) l (AnExpr i e ∷ []) is = elim (is_target e) as (λ t. Leveled (if t then Some (AnExpr 17 (tree.PostfixUpdate (Some l) o e)) else None)) [ true ↦ (omega arith) | false ↦ tt ]
levels_made (slot.Postfix o) l ps is = tt
levels_made (slot.PrefixUpdate o) l (AnExpr i e ∷ []) is = by_test (is_target e) refl
  where
    by_test : (b : Bool) → is_target e ≡ b → Leveled (if b then Some (AnExpr 17 (tree.PrefixUpdate (Some l) o e)) else None)
    by_test true h = omega arith
    by_test false h = tt
levels_made (slot.PrefixUpdate o) l ps is = tt
levels_made (slot.Unary o) l (AnExpr i e ∷ []) is = omega arith
levels_made (slot.Unary o) l ps is = tt
levels_made (slot.Binary o) l (AnExpr i x ∷ AnExpr j y ∷ []) is = leveled_binary o
levels_made (slot.Binary o) l ps is = tt
levels_made (slot.Logical logic.Coalesce) l (AnExpr i x ∷ AnExpr j y ∷ []) is = elim (is_and_or x) as (λ t. Leveled (if t then None else Some (AnExpr 4 (tree.Logical (Some l) logic.Coalesce x y)))) [ true ↦ tt | false ↦ omega arith ]
levels_made (slot.Logical logic.And) l (AnExpr i x ∷ AnExpr j y ∷ []) is = omega arith
levels_made (slot.Logical logic.Or) l (AnExpr i x ∷ AnExpr j y ∷ []) is = omega arith
levels_made (slot.Logical logic.Coalesce) l ps is = tt
levels_made (slot.Logical o) l ps is = tt
levels_made slot.Conditional l (AnExpr h c ∷ AnExpr i x ∷ AnExpr j y ∷ []) is = omega arith
levels_made slot.Conditional l ps is = tt
levels_made (slot.Assignment o) l (AnExpr i x ∷ AnExpr j v ∷ []) is = elim (is_target x) as (λ t. Leveled (if t then Some (AnExpr assignment (tree.Assignment (Some l) o x v)) else None)) [ true ↦ omega arith | false ↦ tt ]
levels_made (slot.Assignment o) l ps is = tt
levels_made slot.ArrowOfName l (AnExpr i (tree.IdentifierReference m w) ∷ ps) is = leveled_arrow l (params_of (more_expr (tree.IdentifierReference m w) no_expr)) (concise ps)
levels_made slot.ArrowOfName l ps is = tt
levels_made slot.Comma l (AnExpr i x ∷ AnExpr j y ∷ []) is = omega arith
levels_made slot.Comma l ps is = tt
levels_made f l ps is = absurd (true≢false (sym is))

pub some_level : {i : ℕ} {e : Expr} {l : Loc} {ts : List Token} {next : Token} → Spells (AnExpr i e) l ts next → any ≤ i
some_level (Sentences.leaf t none is) = omega arith
some_level (Sentences.prefixed f {ps = ps} {l = l} t is d made) = subst Leveled made (levels_made f (through t.loc l) ps (is_first_form t f is))
some_level (Sentences.joined f {ps = ps} {i = i} {a = a} {la = la} {l = l} t is are low da d made) = subst Leveled made (levels_made f (through la l) (AnExpr i a ∷ ps) (is_join_form t f is))
